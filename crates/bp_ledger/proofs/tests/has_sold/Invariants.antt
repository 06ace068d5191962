use Rattle.std.proofs.Common.{ℕ, ◌<◌, ◌≤◌, slice_index}
use Rattle.bp_ledger.proofs.tests.has_sold.Given as goal

-- the nights before this one have so much sold
abbrev pub invariant-loop-night : goal.invariant-loop-night
invariant-loop-night l = (k : ℕ) → l.fn.span.from ≤ k → k < l.night → l.units ≤ slice_index l.ledger.sold k
