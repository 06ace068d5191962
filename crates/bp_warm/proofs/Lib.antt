-- Lemmas on lists of changes. Other crates cite them.

-- changes that are made in two goes
pub mod Joins
