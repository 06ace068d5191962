-- What the tests of a book cite.

-- what the tests know of a book between two calls
pub mod Desks
