-- Lemmas on reports, each page after those that it rests on.

-- How the tallies of stays and the counts of callers grow with one place more.
pub mod TallyLemmas
-- The Books of a legal history: each is by one of the callers, and of a stay of the house.
pub mod EntryLemmas
-- Tables that are written row by row.
pub mod RowLemmas
-- The text of the tables is a report.
pub mod ReportLemmas
-- A history has one report.
pub mod Unique
