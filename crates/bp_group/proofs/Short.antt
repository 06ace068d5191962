-- Nights that lack the rooms of a group.
use Rattle.std.proofs.Common.{◌≡◌, ℕ, ◌-◌, arith, None, nat_lt, length, slice_index}
use Rattle.std.proofs.lemmas.Bool.{ltb-false}
use Rattle.bp_types.specs.declared.stay.Span.{Span}
use Rattle.bp_types.specs.Program.{Program}
use Rattle.bp_types.specs.Spans.{IsSpanWithin, first_short}
use Rattle.bp_types.specs.Changes.{HasUnits}
use Rattle.bp_types.proofs.Firsts.{none_passes}

-- where no night of the span is short, each has the units
pub each_has_units : (p : Program) (s : Span) (units : ℕ) → IsSpanWithin (length p.rooms) s → first_short (slice_index p.rooms) s units ≡ None →
    HasUnits p s units
each_has_units p s units span none n above below =
    ltb-false (slice_index p.rooms n) units
    (none_passes (λ k. nat_lt (slice_index p.rooms k) units) s.from (s.to - s.from) none n above (omega (arith, span.0)))
