-- Sums of prices to the last night, made from the last night on.
use Rattle.std.proofs.Common.{◌≡◌, ℕ, suc, ◌+◌, ◌-◌, ◌*◌, ◌<◌, ◌≤◌, ap, ◌∙◌, sym, arith, List, length, set, slice_index, inl, inr}
use Rattle.std.proofs.Common.{get_or-set_other, get_or-set_same}
use Rattle.std.proofs.lemmas.Bool.{cases_eq}
use Rattle.bp_types.specs.declared.stay.Span.{Span}
use Rattle.bp_types.specs.Sums.{sum_below}
use Rattle.bp_types.specs.Program.{Program, price, stay_at, surplus}
use Rattle.bp_types.specs.Optimum.{price_from}
use Rattle.bp_types.specs.Prices.{SumUp}
use Rattle.bp_types.proofs.Suffixes.{price_from-falls, price_from_sums}
use Rattle.bp_types.proofs.Spans.{price_is_fall}

-- the sum from one night further back
pub one_more_sum : (prices : List ℕ) (gone sum : ℕ) → gone < length prices → sum ≡ price_from prices (length prices - gone) →
    sum + slice_index prices (length prices - 1 - gone) ≡ price_from prices (length prices - (gone + 1))
one_more_sum prices gone sum h so_far =
    let night = length prices - 1 - gone in
    let fall = price_from-falls prices night (omega arith) in
    let there : price_from prices (night + 1) ≡ price_from prices (length prices - gone) = ap (price_from prices) (omega arith) in
    let here : price_from prices night ≡ price_from prices (length prices - (gone + 1)) = ap (price_from prices) (omega arith) in
    omega (arith, fall, there, here, so_far)

-- and the sums with it
pub one_more_made : (prices sums : List ℕ) (gone sum : ℕ) → gone < length prices → length prices < length sums →
    sum ≡ price_from prices (length prices - (gone + 1)) →
    ((n : ℕ) → length prices - gone ≤ n → n ≤ length prices → slice_index sums n ≡ price_from prices n) →
    (n : ℕ) → length prices - (gone + 1) ≤ n → n ≤ length prices → slice_index (set sums (length prices - 1 - gone) sum) n ≡ price_from prices n
one_more_made prices sums gone sum h long now made n above within =
    let night = length prices - 1 - gone in
    let at : length prices - (gone + 1) ≡ night = omega arith in
    elim (cases_eq n night) [
      | inl here ↦ let e = get_or-set_same sums night sum 0 (omega arith) in let f = ap (slice_index (set sums night sum)) here in
          let g = ap (price_from prices) (here ∙ sym at) in omega (arith, e, f, g, now)
      | inr other ↦ let e = get_or-set_other sums night n sum 0 other in omega (arith, e, made n (omega arith) within)
    ]

-- the price of a span is the difference of two sums
pub price_of_sums : (prices sums : List ℕ) (s : Span) → SumUp prices sums → s.from ≤ s.to → s.to ≤ length prices →
    slice_index sums s.from - slice_index sums s.to ≡ price prices s
price_of_sums prices sums s made ordered within =
    let e = price_is_fall (price_from prices) prices s (price_from_sums prices) ordered within in
    omega (arith, e, made s.from (omega arith), made s.to within)

-- the forecasts at their surpluses, with one stay more
pub one_more_surplus : (p : Program) (prices sums : List ℕ) (j sum value : ℕ) →
    SumUp prices sums → (stay_at p j).span.from ≤ (stay_at p j).span.to → (stay_at p j).span.to ≤ length prices →
    sum ≡ sum_below (λ k. (stay_at p k).forecast * surplus p prices k) j →
    value ≡ (stay_at p j).forecast * ((stay_at p j).rate - (slice_index sums (stay_at p j).span.from - slice_index sums (stay_at p j).span.to)) →
    sum + value ≡ sum_below (λ k. (stay_at p k).forecast * surplus p prices k) (j + 1)
one_more_surplus p prices sums j sum value made ordered within so_far at =
    let cost = price_of_sums prices sums (stay_at p j).span made ordered within in
    let now : value ≡ (stay_at p j).forecast * surplus p prices j = at ∙ ap (λ x. (stay_at p j).forecast * ((stay_at p j).rate - x)) cost in
    let f : ℕ → ℕ = λ k. (stay_at p k).forecast * surplus p prices k in
    let next : suc j ≡ j + 1 = omega arith in
    let more : sum_below f (suc j) ≡ sum_below f (j + 1) = ap (sum_below f) next in
    ap (λ x. x + value) so_far ∙ ap (λ x. sum_below f j + x) now ∙ more
