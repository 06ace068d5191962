use Rattle.std.proofs.Common.{◌≤◌, ◌<◌, ℕ, slice_index}
use Rattle.bp_core_tests.proofs.desk.has_units.Given as goal

-- the nights before this one have the units
abbrev pub invariant-loop-night : goal.invariant-loop-night
invariant-loop-night l = (n : ℕ) → l.fn.span.from ≤ n → n < l.night → l.units ≤ slice_index l.instance.rooms n
