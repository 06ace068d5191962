use Rattle.std.proofs.Common.{ℕ, ◌<◌}
use Rattle.bp_flow.specs.Shift.{StandsAt}
use Rattle.bp_flow.proofs.ways.ways_stand.Given as goal

abbrev pub invariant-loop-node : goal.invariant-loop-node
invariant-loop-node l = (v : ℕ) → v < l.node → StandsAt l.flow l.ranks v
