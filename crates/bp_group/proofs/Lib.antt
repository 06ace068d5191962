-- Lemmas on refused quotes.

-- nights that lack the rooms of a group
pub mod Short
