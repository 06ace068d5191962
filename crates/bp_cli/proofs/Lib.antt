-- Lemmas on lines of words.

-- The task that words mean, if they mean one: by it a line means one task alone, and what is not plain is told.
pub mod Meaning
-- Numbers of 1 to 9 digits.
pub mod NumberLemmas
-- What `clap` makes of plain words.
pub mod Walks
-- From what is read of the words behind a command to what a whole line is answered.
pub mod Lines
