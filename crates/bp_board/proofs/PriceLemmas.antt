-- The price of a span as a difference of two sums that are read.
use Rattle.std.proofs.Common.{◌≡◌, ℕ, ◌+◌, ◌<◌, ◌≤◌, arith, List, length, get_or}
use Rattle.std.proofs.lemmas.Grind.{get_or_default_zero}
use Rattle.bp_types.specs.declared.stay.Span.{Span}
use Rattle.bp_types.specs.Program.{price}
use Rattle.bp_types.specs.Optimum.{price_from}
use Rattle.bp_types.specs.Prices.{SumUp}
use Rattle.bp_types.proofs.Spans.{price_is_fall}
use Rattle.bp_types.proofs.Suffixes.{price_from_sums}

-- two sums that were read, for the nights of a span
pub read_sums : (prices sums : List ℕ) (s : Span) (first last : ℕ) → SumUp prices sums → length sums ≡ length prices + 1 → s.from < s.to →
    s.to ≤ length prices →
    first ≡ get_or sums s.from first → last ≡ get_or sums s.to last → price prices s + last ≡ first
read_sums prices sums s first last made one_more ordered within is_first is_last =
    let fall = price_is_fall (price_from prices) prices s (price_from_sums prices) (omega arith) within in
    let above = get_or_default_zero sums s.from first (omega arith) in
    let below = get_or_default_zero sums s.to last (omega arith) in
    omega (arith, fall, is_first, is_last, above, below, made s.from (omega arith), made s.to within)
