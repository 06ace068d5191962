use Rattle.std.proofs.Common.{◌≡◌, ◌*◌, ◌^◌, ◌≤◌, slice_index}
use Rattle.bp_types.specs.Sums.{sum_below}
use Rattle.bp_types.proofs.instance.Instance.rooms_value.Given as goal

abbrev pub invariant-loop-night : goal.invariant-loop-night
invariant-loop-night l =
    (l.sum ≡ sum_below (λ n. slice_index l.self.rooms n * slice_index l.prices n) l.night) × (l.sum ≤ 2 ^ 84 * l.night)
