-- The sums of a board's prices, as they are filled in from the first night on.
use Rattle.std.proofs.Common.{◌≡◌, ℕ, ◌+◌, ◌<◌, ◌≤◌, ap, arith, inl, inr, List, length, set, slice_index}
use Rattle.std.proofs.Common.{get_or-set_other, get_or-set_same}
use Rattle.std.proofs.lemmas.Bool.{cases_eq}
use Rattle.bp_types.specs.declared.stay.Span.{Span}
use Rattle.bp_types.specs.Program.{price}
use Rattle.bp_types.specs.Optimum.{price_from}
use Rattle.bp_types.proofs.Spans.{price_is_fall}
use Rattle.bp_types.proofs.Suffixes.{price_from_sums}

-- the price of the nights from one on to the last
pub price_to_last : (prices : List ℕ) (s : Span) → s.from ≤ s.to → s.to ≡ length prices → price prices s ≡ price_from prices s.from
price_to_last prices s ordered last =
    let fall = price_is_fall (price_from prices) prices s (price_from_sums prices) ordered (omega (arith, last)) in
    let none = (price_from_sums prices).last in
    let e = ap (price_from prices) last in
    omega (arith, fall, none, e)

-- the sums with one more
pub one_more : (prices sums : List ℕ) (night sum : ℕ) → night < length sums → sum ≡ price_from prices night →
    ((n : ℕ) → n < night → slice_index sums n ≡ price_from prices n) →
    (n : ℕ) → n < night + 1 → slice_index (set sums night sum) n ≡ price_from prices n
one_more prices sums night sum within is made n below =
    elim (cases_eq n night) [
      | inl here ↦ let e = get_or-set_same sums night sum 0 within in let f = ap (slice_index (set sums night sum)) here in
          let g = ap (price_from prices) here in omega (arith, e, f, g, is)
      | inr other ↦ let e = get_or-set_other sums night n sum 0 other in let m = made n (omega (arith, below, other)) in omega (arith, e, m)
    ]
