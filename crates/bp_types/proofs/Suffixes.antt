-- The sums of prices from a night to the last one.
use Rattle.std.proofs.Common.{◌≡◌, ℕ, zero, suc, ◌+◌, ◌-◌, ◌<◌, ◌≤◌, ap, ◌∙◌, sym, arith, List, length, slice_index}
use Rattle.bp_types.specs.Sums.{sum_below}
use Rattle.bp_types.specs.Optimum.{price_from, AreSuffixSums}
use Rattle.bp_types.proofs.SumLemmas.{sum_below-first, sum_below-cong}

pub price_from-past : (prices : List ℕ) (n : ℕ) → length prices ≤ n → price_from prices n ≡ 0
price_from-past prices n h = let e : length prices - n ≡ 0 = omega arith in ap (sum_below (λ k. slice_index prices (n + k))) e

pub price_from-falls : (prices : List ℕ) (n : ℕ) → n < length prices → price_from prices n ≡ slice_index prices n + price_from prices (n + 1)
price_from-falls prices n h =
    let m = length prices - (n + 1) in
    let e : length prices - n ≡ suc m = omega arith in
    let f : ℕ → ℕ = λ k. slice_index prices (n + k) in
    let start : f 0 ≡ slice_index prices n = ap (slice_index prices) (omega arith) in
    let rest : sum_below (λ k. f (k + 1)) m ≡ sum_below (λ k. slice_index prices (n + 1 + k)) m =
    sum_below-cong _ _ m (λ k g. ap (slice_index prices) (omega arith)) in
    ap (sum_below f) e ∙ sum_below-first f m ∙
    (let r : f 0 + sum_below (λ k. f (k + 1)) m ≡ slice_index prices n + price_from prices (n + 1) = omega (arith, start, rest) in r)

pub price_from_sums : (prices : List ℕ) → AreSuffixSums (price_from prices) prices
price_from_sums prices = record { last = price_from-past prices (length prices) (omega arith); falls = price_from-falls prices }

-- suffix sums are determined
suffix_from : (u : ℕ → ℕ) (prices : List ℕ) → AreSuffixSums u prices → (d n : ℕ) → n + d ≡ length prices → u n ≡ price_from prices n
suffix_from u prices sums zero n e =
    let at : n ≡ length prices = omega arith in
    ap u at ∙ sums.last ∙ sym (price_from-past prices n (omega arith))
suffix_from u prices sums (suc d) n e =
    omega (arith, sums.falls n (omega arith), price_from-falls prices n (omega arith), suffix_from u prices sums d (n + 1) (omega arith))

pub suffix_is_price_from : (u : ℕ → ℕ) (prices : List ℕ) (n : ℕ) → AreSuffixSums u prices → n ≤ length prices → u n ≡ price_from prices n
suffix_is_price_from u prices n sums h = suffix_from u prices sums (length prices - n) n (omega arith)
