-- What a plain line of words is, and the task that it asks for: contracts of public calls cite these pages, up to
-- `Laws`. The last two say how the words are read: the command's form, and the command that `clap` reads the words of a
-- desk by.

-- words, names of files and numbers
pub mod Words
-- what plain words ask for
pub mod Tasks
-- the task that was read of the words, as contracts see it
pub mod Asked
-- laws of words
pub mod Laws
-- the command that the first word names
pub mod Forms
-- the command that `clap` reads the words of a desk by, and what it has to give of them
pub mod Clap
