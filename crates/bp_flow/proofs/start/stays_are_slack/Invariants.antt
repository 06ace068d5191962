use Rattle.std.proofs.Common.{ℕ, ◌<◌, slice_index}
use Rattle.bp_residual.specs.Network.{Admits, IsNonNegative, sell_more, sell_less}
use Rattle.bp_flow.proofs.start.stays_are_slack.Given as goal

abbrev pub invariant-loop-stay : goal.invariant-loop-stay
invariant-loop-stay l =
    ((j : ℕ) → j < l.stay → Admits l.flow.flow (sell_more j) 1 → IsNonNegative l.flow.flow.program (slice_index l.flow.potentials) (sell_more j))
    × ((j : ℕ) → j < l.stay → Admits l.flow.flow (sell_less j) 1 → IsNonNegative l.flow.flow.program (slice_index l.flow.potentials) (sell_less j))
