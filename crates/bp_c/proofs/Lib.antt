-- Lemmas on the calls for other languages, each page after those that it rests on.

-- the value of a certificate fits a machine word
pub mod Bounds
-- from what a call of the program says of words to what the words give
pub mod Outcomes
-- the files of a task are those that hold the texts of a call
pub mod Held
-- the line of each call asks for its task
pub mod Lines
-- from what words give, and what became of their text, to the reply of a call
pub mod Delivered
