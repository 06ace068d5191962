-- The history lock: what contracts see of a seat, and the rule that every step of every thread keeps. Each page rests
-- on those above it.

-- prefixes of lists
pub mod Prefix
-- callers' numbers, and the entries of one caller
pub mod Callers
-- what contracts see of a seat
pub mod Seat
-- the view of a seat, and how each step changes it
pub mod Views
-- the rule of the lock's table, between any two steps
pub mod Rule
-- what each step on the table tells the seat that makes it
pub mod Plays
