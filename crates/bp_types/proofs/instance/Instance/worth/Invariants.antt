use Rattle.std.proofs.Common.{◌≡◌, ◌*◌, ◌^◌, ◌≤◌, slice_index}
use Rattle.bp_types.specs.Program.{stay_at}
use Rattle.bp_types.specs.Sums.{sum_below}
use Rattle.bp_types.proofs.instance.Instance.worth.Given as goal

abbrev pub invariant-loop-stay : goal.invariant-loop-stay
invariant-loop-stay l =
    (l.sum ≡ sum_below (λ j. (stay_at l.self j).rate * slice_index l.sell j) l.stay) × (l.sum ≤ 2 ^ 94 * l.stay)
