-- What is said of the bench's desk.

-- what a busy desk knows of a board that it publishes
pub mod Desks
