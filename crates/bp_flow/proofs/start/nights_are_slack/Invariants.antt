use Rattle.std.proofs.Common.{ℕ, ◌<◌, slice_index}
use Rattle.bp_residual.specs.Network.{Admits, IsNonNegative, spare_less}
use Rattle.bp_flow.proofs.start.nights_are_slack.Given as goal

abbrev pub invariant-loop-night : goal.invariant-loop-night
invariant-loop-night l = (n : ℕ) → n < l.night → Admits l.flow.flow (spare_less n) 1 →
    IsNonNegative l.flow.flow.program (slice_index l.flow.potentials) (spare_less n)
