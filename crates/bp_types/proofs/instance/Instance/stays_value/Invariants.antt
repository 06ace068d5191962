use Rattle.std.proofs.Common.{◌≡◌, ◌*◌, ◌^◌, ◌≤◌}
use Rattle.bp_types.specs.Program.{stay_at, surplus}
use Rattle.bp_types.specs.Sums.{sum_below}
use Rattle.bp_types.proofs.instance.Instance.stays_value.Given as goal

abbrev pub invariant-loop-stay : goal.invariant-loop-stay
invariant-loop-stay l =
    (l.sum ≡ sum_below (λ j. (stay_at l.self j).forecast * surplus l.self l.prices j) l.stay) × (l.sum ≤ 2 ^ 50 * l.stay)
