-- Lemmas on the house of a problem.

-- the house of a problem breaks no limit
pub mod Fits
