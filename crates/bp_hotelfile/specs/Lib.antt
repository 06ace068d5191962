-- What a hotel file says: tests in their order, dates, keys and tables, the hotel, and laws.

-- one test after another: the first refusal is the answer
pub mod Steps
-- refusals of a hotel file
pub mod Refusals
-- numbers in text
pub mod Numbers
-- dates in text, and their day numbers
pub mod Dates
-- the keys of the hotel file
pub mod Keys
-- what stands under the keys, in their order
pub mod Settings
-- the tables of nights that have rooms of their own
pub mod Nights
-- what a hotel file says, as contracts see it
pub mod Season
-- laws of the hotel file
pub mod Laws
