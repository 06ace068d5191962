-- Lemmas on displays, each page after those that it rests on.

-- lists of vectors whose numbers rise
pub mod Lists
-- prices as the falls of their sums
pub mod Falls
-- each step on the table keeps the rule
pub mod Steps
-- each step of the readers and the writer keeps the rule of what readers take
pub mod Faces
-- the vectors of a history, by their numbers
pub mod InHistories
