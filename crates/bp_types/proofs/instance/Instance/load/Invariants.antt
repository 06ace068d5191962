use Rattle.std.proofs.Common.{◌≡◌, ◌*◌, ◌^◌, ◌≤◌, slice_index, cond}
use Rattle.bp_types.specs.Program.{covers, stay_at}
use Rattle.bp_types.specs.Sums.{sum_below}
use Rattle.bp_types.proofs.instance.Instance.load.Given as goal

abbrev pub invariant-loop-stay : goal.invariant-loop-stay
invariant-loop-stay l =
    (l.sum ≡ sum_below (λ j. cond (covers (stay_at l.self j).span l.night) (slice_index l.sell j) 0) l.stay)
    × (l.sum ≤ 2 ^ 64 * l.stay)
