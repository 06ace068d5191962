-- Lemmas on the tree, each page after those that it rests on.

-- what a write at one node does
pub mod NodeLemmas
-- levels, and ways to the root
pub mod LevelLemmas
-- the walk up from two leaves
pub mod WalkLemmas
-- amounts added and taken off on that walk
pub mod TakeLemmas
-- what is left below a node
pub mod LookLemmas
-- an amount pushed to both children
pub mod PushLemmas
-- the walk to the first leaf with too few left
pub mod FindLemmas
-- the two lists that contracts see, and the tree behind them
pub mod LedgerLemmas
