use Rattle.std.proofs.Common.{◌≡◌, ◌+◌, ◌-◌, map, slice_index}
use Rattle.std.specs.List.{range_with_len}
use Rattle.bp_residual.proofs.flow.prices.Given as goal

abbrev pub invariant-loop-night : goal.invariant-loop-night
invariant-loop-night l = l.prices.items ≡ map (λ n. slice_index l.potentials n - slice_index l.potentials (n + 1)) (range_with_len 0 l.night)
