use Rattle.std.proofs.Common.{◌≡◌, ℕ, ◌<◌, ◌≤◌}
use Rattle.bp_types.specs.declared.limits.TheConstants.{MOST_RATE}
use Rattle.bp_types.specs.Program.{stay_at}
use Rattle.bp_residual.specs.Network.{greatest_below}
use Rattle.bp_residual.proofs.flow.greatest_rate.Given as goal

abbrev pub invariant-loop-stay : goal.invariant-loop-stay
invariant-loop-stay l =
    (l.greatest ≡ greatest_below (λ j. (stay_at l.instance j).rate) l.stay)
    × ((j : ℕ) → j < l.stay → (stay_at l.instance j).rate ≤ l.greatest)
    × (l.greatest ≤ MOST_RATE)
