-- The price of a span, from the newest vector that a pass keeps.
use Rattle.std.proofs.Common.{◌≡◌, ℕ, ◌-◌, ◌<◌, ◌≤◌, subst, arith, length, slice_index}
use Rattle.bp_types.specs.House.{Inn}
use Rattle.bp_types.specs.declared.stay.Span.{Span}
use Rattle.bp_types.specs.Program.{price}
use Rattle.bp_types.specs.Spans.{IsSpanWithin}
use Rattle.bp_types.specs.Optimum.{price_from}
use Rattle.bp_types.proofs.Spans.{price_is_fall}
use Rattle.bp_types.proofs.Suffixes.{price_from_sums}
use Rattle.bp_core.specs.Lines.{History, last_prices}
use Rattle.bp_desk.specs.Newest.{Vector, IsNewest}
use Rattle.bp_desk.specs.Passes.{PassState, pass_of, IsPass}
use Rattle.bp_desk.proofs.Made.{State}

-- a span of the house lies within the sums, which fall along it by its price
pub record IsPriced (v : Vector) (span : Span) (sum : ℕ) : Type 0 where
  pub ordered : span.from < span.to
  pub within : span.to < length v.sums
  pub falls : slice_index v.sums span.to ≤ slice_index v.sums span.from
  pub sum_is : slice_index v.sums span.from - slice_index v.sums span.to ≡ sum

pub priced : (h : Inn) (H : History) (v : Vector) (span : Span) → IsNewest h H v → IsSpanWithin (length h.rooms) span →
    IsPriced v span (price (last_prices H) span)
priced h H v span knows inside =
    let n = knows.nights in let each = knows.each_night in let ordered = inside.0 in let within = inside.1 in
    let fall = price_is_fall (price_from (last_prices H)) (last_prices H) span (price_from_sums (last_prices H)) (omega (arith, ordered))
    (omega (arith, n, within)) in
    let a = knows.sums_are span.from (omega (arith, n, ordered, within)) in
    let b = knows.sums_are span.to (omega (arith, n, within)) in
    record { ordered = ordered; within = omega (arith, each, within); falls = omega (arith, fall, a, b); sum_is = omega (arith, fall, a, b) }

-- the same of a pass, as its contracts see it
pub priced_pass : (s : State) (q : PassState) (caller next : ℕ) (v : Vector) (span : Span) → pass_of s ≡ q → IsPass s caller next v →
    IsSpanWithin (length q.house.rooms) span → IsPriced v span (price (last_prices q.seen) span)
priced_pass s q caller next v span is p inside =
    let P : PassState → Type 0 = λ x. IsSpanWithin (length x.house.rooms) span → IsPriced v span (price (last_prices x.seen) span) in
    subst P is (λ there. priced (pass_of s).house s.seen v span p.knows there) inside
