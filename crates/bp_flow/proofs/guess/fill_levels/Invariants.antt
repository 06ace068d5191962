use Rattle.std.proofs.Common.{ℕ, ◌^◌, ◌<◌, ◌≤◌, slice_index}
use Rattle.bp_flow.proofs.guess.fill_levels.Given as goal

abbrev pub invariant-loop-node : goal.invariant-loop-node
invariant-loop-node l = (v : ℕ) → v < l.node → slice_index l.by v ≤ 10 ^ 30
