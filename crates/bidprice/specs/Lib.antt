-- What is said of the program: the status that it ends with.

-- the status that the program ends with
pub mod Exits
