-- Prices as the falls of their sums.
use Rattle.std.proofs.Common.{◌≡◌, ℕ, ◌+◌, ◌-◌, ◌<◌, ◌≤◌, List, length, slice_index, ap, ◌∙◌, arith}
use Rattle.std.proofs.lemmas.List.{ext_get_or}
use Rattle.std.proofs.lemmas.List.FromFn.{get_or-map-range_with_len, length-map-range_with_len}
use Rattle.bp_types.specs.declared.limits.TheConstants.{MOST_NIGHTS}
use Rattle.bp_types.specs.declared.stay.Span.{Span}
use Rattle.bp_types.specs.Program.{price}
use Rattle.bp_types.specs.Spans.{IsSpanWithin}
use Rattle.bp_types.specs.Optimum.{AreSuffixSums}
use Rattle.bp_types.specs.Prices.{SumUp}
use Rattle.bp_types.proofs.Spans.{price_is_fall}
use Rattle.bp_types.proofs.Suffixes.{price_from-past, price_from-falls}
use Rattle.bp_show.specs.Vectors.{Vector, falls_of, FallTo}

-- a vector is its number, its position and its prices
pub same_vector : (n m p q : ℕ) (xs ys : List ℕ) → n ≡ m → p ≡ q → xs ≡ ys →
    Path Vector (record { number = n; position = p; prices = xs }) (record { number = m; position = q; prices = ys })
same_vector n m p q xs ys a b c = cc

pub falls_length : (nights : ℕ) (sums : List ℕ) → length (falls_of nights sums) ≡ nights
falls_length nights sums = length-map-range_with_len (λ n. slice_index sums n - slice_index sums (n + 1)) 0 nights

falls_at : (nights : ℕ) (sums : List ℕ) (n : ℕ) → n < nights → slice_index (falls_of nights sums) n ≡ slice_index sums n - slice_index sums (n + 1)
falls_at nights sums n within = get_or-map-range_with_len (λ k. slice_index sums k - slice_index sums (k + 1)) 0 nights n n 0 within (omega arith)

-- the sums of prices fall to 0
pub fall_to : (prices sums : List ℕ) (nights : ℕ) → nights ≡ length prices → nights ≤ MOST_NIGHTS → SumUp prices sums → FallTo nights sums
fall_to prices sums nights many most are = record {
  most = most;
  last = are nights (omega (arith, many)) ∙ price_from-past prices nights (omega (arith, many));
  falls = λ n within. omega (
    arith,
    are n (omega (arith, many, within)),
    are (n + 1) (omega (arith, many, within)),
    price_from-falls prices n (omega (arith, many, within)),
  );
}

-- and their falls are the prices
pub falls_are : (prices sums : List ℕ) (nights : ℕ) → nights ≡ length prices → SumUp prices sums → falls_of nights sums ≡ prices
falls_are prices sums nights many are =
    ext_get_or 0 (falls_of nights sums) prices (falls_length nights sums ∙ many)
    (λ n h. let within : n < nights = omega (arith, h, falls_length nights sums) in
    omega (
      arith,
      falls_at nights sums n within,
      are n (omega (arith, many, within)),
      are (n + 1) (omega (arith, many, within)),
      price_from-falls prices n (omega (arith, many, within)),
    ))

suffixes : (nights : ℕ) (sums : List ℕ) → FallTo nights sums → AreSuffixSums (slice_index sums) (falls_of nights sums)
suffixes nights sums fall = record {
  last = ap (slice_index sums) (falls_length nights sums) ∙ fall.last;
  falls = λ n h. let within : n < nights = omega (arith, h, falls_length nights sums) in omega (arith, falls_at nights sums n within, fall.falls n within);
}

-- the price of a span is the fall of the sums over it
pub price_of_falls : (nights : ℕ) (sums : List ℕ) (span : Span) → FallTo nights sums → IsSpanWithin (length (falls_of nights sums)) span →
    price (falls_of nights sums) span + slice_index sums span.to ≡ slice_index sums span.from
price_of_falls nights sums span fall inside =
    let ordered = inside.0 in
    price_is_fall (slice_index sums) (falls_of nights sums) span (suffixes nights sums fall) (omega (arith, ordered)) inside.1
