use Rattle.std.proofs.Common.{ℕ, ◌<◌}
use Rattle.bp_paths.specs.Mended.{IsRightAt}
use Rattle.bp_paths.proofs.mended.are_right.Given as goal

abbrev pub invariant-loop-node : goal.invariant-loop-node
invariant-loop-node l = (v : ℕ) → v < l.node → IsRightAt l.flow l.to l.kept l.ranks v
