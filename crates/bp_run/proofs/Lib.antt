-- Lemmas on calls of the program, each page after those that it rests on.

-- how the files of several hotels follow one another
pub mod PortfolioLemmas
-- from the files of a command to the end of a call
pub mod EndLemmas
-- good files are not refused
pub mod CompleteLemmas
-- what a desk wrote is legal by `replay`
pub mod Replays
-- what each kind of file and each command owes to completeness
pub mod SoundCommands
