-- Quotes, and nights that lack the units of a group.
use Rattle.std.proofs.Common.{◌≡◌, ℕ, ◌-◌, ◌≤◌, ◌<◌, arith, Some, nat_lt, length, slice_index}
use Rattle.std.proofs.lemmas.Bool.{ltb-true}
use Rattle.bp_types.specs.declared.stay.Span.{Span}
use Rattle.bp_types.specs.declared.limits.TheConstants.{MOST_UNITS}
use Rattle.bp_types.specs.Limits.{IsWithinLimits}
use Rattle.bp_types.specs.Program.{Program}
use Rattle.bp_types.specs.Spans.{IsSpanWithin, first_short}
use Rattle.bp_types.proofs.Firsts.{first_passes}
use Rattle.bp_optimise.specs.Quoting.{LacksUnits}

-- a night that is short lacks the units
pub short_lacks : (p : Program) (s : Span) (units night : ℕ) → s.from < s.to → first_short (slice_index p.rooms) s units ≡ Some night → LacksUnits p s units
short_lacks p s units night some is =
    let f = first_passes (λ k. nat_lt (slice_index p.rooms k) units) s.from (s.to - s.from) night is in
    (night, f.above, (let b = f.below in omega (arith, b, some)), ltb-true _ _ f.passes)

-- no night has so many units
pub far_lacks : (p : Program) (s : Span) (units : ℕ) → IsWithinLimits p → IsSpanWithin (length p.rooms) s → MOST_UNITS < units → LacksUnits p s units
far_lacks p s units limits span many =
    let most : slice_index p.rooms s.from ≤ MOST_UNITS = limits.rooms s.from 0 (omega (arith, span.0, span.1)) in
    (s.from, omega arith, span.0, omega (arith, most, many))
