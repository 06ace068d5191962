-- What the tables say: a table of text, the rule of a row, and then the stays file, the forecast file and the bookings
-- file. Contracts of public calls cite these pages, up to `Laws`; the last two say how the readers hold what they read.

-- the columns of the tables
pub mod Columns
-- what stands in a field: spaces at its ends, numbers and codes
pub mod Fields
-- a table: the records that `csv` gives, their columns found by name
pub mod Tables
-- the codes of stays, in the order of their file
pub mod Codes
-- the tests of a record's fields
pub mod Cells
-- a table is read row by row, and the first refusal is the answer
pub mod Reading
-- the stays of a hotel with their codes
pub mod StayList
-- the stays file
pub mod Stays
-- the rows of a forecast or a bookings file: a count for each stay that is named
pub mod Counts
-- the forecast file: what it says of the stays of a list
pub mod Forecasts
-- the bookings file: the rooms that are sold of each night
pub mod Bookings
-- refusals of a table
pub mod Refusals
-- laws of the tables
pub mod Laws
-- the counts of a file as the readers hold them: one place for each stay
pub mod LaidOut
-- where a reader of `csv` over bytes in memory stands, and the records that it still gives
pub mod Records
