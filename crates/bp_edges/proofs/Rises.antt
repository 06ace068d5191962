-- Counts that rose, over several calls.
use Rattle.std.proofs.Common.{ℕ, ◌≤◌, arith}
use Rattle.bp_edges.specs.Counts.{Rose}

-- what rose has risen still after a call in which it did not fall
pub Rose-later : (before middle now : ℕ) → Rose before middle → middle ≤ now → Rose before now
Rose-later before middle now rose later = omega arith

-- what did not fall in a call and rose in the next rose over both
pub Rose-earlier : (before middle now : ℕ) → before ≤ middle → Rose middle now → Rose before now
Rose-earlier before middle now later rose = omega arith
