-- What a report says of a history: its columns, what became of the bookings, the tables, and a law over them.

-- columns of fixed widths: a text that is wider than its column stands whole
pub mod Columns
-- what became of the Books of each stay
pub mod Tallies
-- the tables of a report: a line for each night, a line for each stay, and the value
pub mod Tables
-- a law over reports
pub mod Laws
