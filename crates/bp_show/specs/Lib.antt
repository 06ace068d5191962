-- What is said of screens and views: the vectors that they show, and the rules of the table and of what readers take.

-- a vector of prices as displays show it
pub mod Vectors
-- the list of vectors that were shown
pub mod Shown
-- the rule of the list shown: one list, of which each seat has seen a first part
pub mod Order
-- the rule of what readers take
pub mod Naming
-- what contracts see of a screen and of a view
pub mod Screens
-- what a follow and a look answer
pub mod Answers
-- the vectors shown, as vectors of a history
pub mod Histories
