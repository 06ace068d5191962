-- A group for which there are rooms finds its units.
use Rattle.std.proofs.Common.{◌≡◌, ℕ, ◌-◌, ◌*◌, ◌<◌, ◌∙◌, sym, ap, arith, length, Some, None, slice_index, take, nat_lt}
use Rattle.std.proofs.lemmas.List.{take_all}
use Rattle.std.proofs.lemmas.Bool.{le-ltb, lt-ltb, and_from, le-leb}
use Rattle.std.proofs.Math.Nat.{mul-le-mul_left}
use Rattle.bp_types.specs.declared.stay.Span.{Span}
use Rattle.bp_types.specs.House.{Inn}
use Rattle.bp_types.specs.Program.{Program}
use Rattle.bp_types.specs.Spans.{IsSpanWithin, first_short}
use Rattle.bp_types.proofs.Firsts.{find-range_none}
use Rattle.bp_core.specs.Lines.{History}
use Rattle.bp_core.specs.Instance.{rooms_left_at, instance_of, instance_at}
use Rattle.bp_core.proofs.Cases.{enough_on}
use Rattle.bp_core.proofs.Instances.{nights_now, units_now}
use Rattle.bp_group.specs.declared.error.QuoteError.{QuoteError}
use Rattle.bp_group.specs.declared.error.QuoteError.TheVariants.{NoRoom}
use Rattle.bp_group.specs.Quotes.{night_of}

pub span_now : (h : Inn) (H : History) (span : Span) → IsSpanWithin (length h.rooms) span → IsSpanWithin (length (instance_of h H).rooms) span
span_now h H span is = let n = nights_now h H in let w = is.1 in (is.0, omega (arith, n, w))

none_short : (h : Inn) (H : History) (span : Span) (rooms : ℕ) → IsSpanWithin (length h.rooms) span → first_short (rooms_left_at h H) span rooms ≡ None →
    first_short (slice_index (instance_of h H).rooms) span (h.limits.unit * rooms) ≡ None
none_short h H span rooms is none =
    let inside = is.1 in
    find-range_none (λ n. nat_lt (slice_index (instance_of h H).rooms n) (h.limits.unit * rooms)) span.from (span.to - span.from) (λ n a b.
    let small : n < span.to = omega arith in
    let enough = enough_on (rooms_left_at h H) rooms span n none (and_from _ _ (le-leb span.from n a) (lt-ltb n span.to small)) in
    let units = units_now h H n (omega arith) in
    le-ltb (slice_index (instance_of h H).rooms n) (h.limits.unit * rooms) (let more =
    mul-le-mul_left {m = rooms} {n = rooms_left_at h H n} h.limits.unit enough in omega (arith, units, more)))

-- at the end of a history the instance is the one of the whole
pub now_of : (h : Inn) (H : History) (position : ℕ) (p : Program) → position ≡ length H → p ≡ instance_at h H position → p ≡ instance_of h H
now_of h H position p at is = is ∙ ap (instance_of h) (ap (λ k. take k H) at ∙ take_all (length H) H (omega arith))

-- so no quote for it is refused for want of rooms
pub short_absurd : (h : Inn) (H : History) (span : Span) (rooms units night : ℕ) (e : QuoteError) (p : Program) → IsSpanWithin (length h.rooms) span →
    first_short (rooms_left_at h H) span rooms ≡ None → p ≡ instance_of h H → units ≡ h.limits.unit * rooms →
    e ≡ NoRoom night → first_short (slice_index p.rooms) span units ≡ night_of e → ⊥
short_absurd h H span rooms units night e p within none program same is short =
    let a : first_short (slice_index (instance_of h H).rooms) span (h.limits.unit * rooms) ≡ Some night =
    ap (λ (q : Program). first_short (slice_index q.rooms) span (h.limits.unit * rooms)) (sym program) ∙
    ap (first_short (slice_index p.rooms) span) (sym same) ∙ short ∙ ap night_of is in
    let b : None ≡ Some night = sym (none_short h H span rooms within none) ∙ a in
    cc
