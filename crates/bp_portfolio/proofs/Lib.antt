-- Lemmas on portfolios.

-- names of files, and the lines that they stand on
pub mod NameLemmas
-- a list as a kind of text
pub mod ListRows
-- several hotels and their desks
pub mod Crews
-- what the reader of a list cites
pub mod ListLemmas
