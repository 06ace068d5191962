use Rattle.std.proofs.Common.{◌≡◌, ℕ, ◌+◌, ◌<◌, ◌≤◌, length, slice_index}
use Rattle.bp_ledger.proofs.tree.lay.Given as goal

abbrev pub invariant-loop-n : goal.invariant-loop-n
invariant-loop-n l = record {
  laid : (k : ℕ) → k < l.n → slice_index l.numbers (l.first + k) ≡ slice_index l.values k;
  before : (k : ℕ) → k < l.first → slice_index l.numbers k ≡ slice_index l.fn.numbers k;
  past : (k : ℕ) → l.first + l.n ≤ k → slice_index l.numbers k ≡ slice_index l.fn.numbers k;
}
