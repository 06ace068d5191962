-- Lemmas on scenarios, each page after those that it rests on.

-- changes that the rooms allow
pub mod RoomLemmas
-- lists that threads answer
pub mod Collected
-- changes told from their lines, and lines told from one another
pub mod ChangeLemmas
-- scenarios as rows: what the rows tell, and how their lines go on
pub mod RowLemmas
-- from a refused line to the whole text
pub mod PlaceLemmas
-- scenarios that were read may be asked about
pub mod ReadLemmas
-- outcomes as they are written
pub mod PrintedLemmas
-- a list of changes has one answer
pub mod UniqueLemmas
