use Rattle.std.proofs.Common.{ℕ, ◌+◌, ◌<◌, ◌≤◌, slice_index}
use Rattle.bp_types.specs.declared.limits.TheConstants.{MOST_UNITS}
use Rattle.bp_flow.proofs.start.takes_units.Given as goal

abbrev pub invariant-loop-night : goal.invariant-loop-night
invariant-loop-night l = (n : ℕ) → l.fn.span.from ≤ n → n < l.night → slice_index l.flow.flow.program.rooms n + l.units ≤ MOST_UNITS
