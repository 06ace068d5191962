-- Loads from arrivals and departures.
use Rattle.std.proofs.Common.{
  ◌≡◌,
  ℕ,
  zero,
  suc,
  ◌+◌,
  ◌*◌,
  ◌^◌,
  ◌<◌,
  ◌≤◌,
  ap,
  ◌∙◌,
  sym,
  arith,
  Bool,
  true,
  false,
  cond,
  ◌==◌,
  List,
  length,
  slice_index,
  set,
  get_or-set_same,
  get_or-set_other,
  inl,
  inr,
}
use Rattle.std.proofs.lemmas.Bool.{cases_eq, cond-true, cond-false, eq-eqb, ne_eqb}
use Rattle.std.proofs.lemmas.Bool.Decides.{nat_tests}
use Rattle.bp_types.specs.declared.limits.TheConstants.{MOST_FORECAST, MOST_NODES}
use Rattle.bp_types.specs.declared.stay.Stay.{Stay}
use Rattle.bp_types.specs.Sums.{sum_below}
use Rattle.bp_types.specs.Program.{Program, stay_at, no_stay, covers, load}
use Rattle.bp_types.specs.Limits.{IsWithinLimits}
use Rattle.bp_types.proofs.SumLemmas.{sum_below-cong, sum_below-add}
use Rattle.bp_cert.specs.Verdicts.{NoneAbove}
use Rattle.bp_cert.specs.Loads.{arriving, departing}

-- one stay: who sleeps here tonight or departs this morning slept here last night or arrives today
one_stay_moves : (a b n y : ℕ) → a < b →
    cond (covers (record { from = a; to = b }) (n + 1)) y 0 + cond (b == n + 1) y 0
    ≡ cond (covers (record { from = a; to = b }) n) y 0 + cond (a == n + 1) y 0
one_stay_moves a b n y some = grind (arith, nat_tests)

one_stay_starts : (a b y : ℕ) → a < b → cond (covers (record { from = a; to = b }) 0) y 0 + cond (b == 0) y 0 ≡ cond (a == 0) y 0
one_stay_starts a b y some = grind (arith, nat_tests)

-- all stays
pub load_moves : (p : Program) (sell : List ℕ) (n : ℕ) → IsWithinLimits p →
    load p sell (n + 1) + departing p sell (n + 1) ≡ load p sell n + arriving p sell (n + 1)
load_moves p sell n limits =
    let m = length p.stays in
    let y : ℕ → ℕ = slice_index sell in
    let s : ℕ → Stay = stay_at p in
    let there : ℕ → ℕ → ℕ = λ k j. cond (covers (s j).span k) (y j) 0 in
    let out : ℕ → ℕ = λ j. cond ((s j).span.to == n + 1) (y j) 0 in
    let «in» : ℕ → ℕ = λ j. cond ((s j).span.from == n + 1) (y j) 0 in
    let both : sum_below (λ j. there (n + 1) j + out j) m ≡ sum_below (λ j. there n j + «in» j) m =
    sum_below-cong _ _ m (λ j h. one_stay_moves (s j).span.from (s j).span.to n (y j) (limits.spans j no_stay h).0) in
    omega (arith, both, sum_below-add (there (n + 1)) out m, sum_below-add (there n) «in» m)

pub first_load : (p : Program) (sell : List ℕ) → IsWithinLimits p → load p sell 0 + departing p sell 0 ≡ arriving p sell 0
first_load p sell limits =
    let m = length p.stays in
    let y : ℕ → ℕ = slice_index sell in
    let s : ℕ → Stay = stay_at p in
    let there : ℕ → ℕ = λ j. cond (covers (s j).span 0) (y j) 0 in
    let out : ℕ → ℕ = λ j. cond ((s j).span.to == 0) (y j) 0 in
    sym (sum_below-add there out m) ∙ sum_below-cong _ _ m (λ j h. one_stay_starts (s j).span.from (s j).span.to (y j) (limits.spans j no_stay h).0)

-- what is sold of some of the first m stays
pub sold_is_small : (p : Program) (sell : List ℕ) (test : ℕ → Bool) (m : ℕ) → IsWithinLimits p → m ≤ length p.stays →
    NoneAbove (λ j. (stay_at p j).forecast) (slice_index sell) (length p.stays) →
    sum_below (λ j. cond (test j) (slice_index sell j) 0) m ≤ MOST_FORECAST * m
sold_is_small p sell test zero limits short within = omega arith
sold_is_small p sell test (suc m) limits short within =
    let sold = within m (omega arith) in
    let forecast = limits.forecasts m no_stay (omega arith) in
    omega (arith, sold_is_small p sell test m limits (omega arith) within, at_most (test m) (slice_index sell m), sold, forecast)
  where
    at_most : (b : Bool) (y : ℕ) → cond b y 0 ≤ y
    at_most true y = omega arith
    at_most false y = omega arith

-- a list of counts after y more at place k
pub counts_more : (list : List ℕ) (count : ℕ → ℕ) (k y : ℕ) → length list ≡ MOST_NODES → k < MOST_NODES →
    ((n : ℕ) → n < MOST_NODES → slice_index list n ≡ count n) →
    (n : ℕ) → n < MOST_NODES → slice_index (set list k (slice_index list k + y)) n ≡ count n + cond (k == n) y 0
counts_more list count k y each in_range so_far n h = elim (cases_eq k n) [
  | inl here ↦
      let at : slice_index (set list k (slice_index list k + y)) k ≡ slice_index list k + y = get_or-set_same list k _ 0 (omega arith) in
      let same : slice_index (set list k (slice_index list k + y)) n ≡ slice_index (set list k (slice_index list k + y)) k =
      ap (slice_index (set list k (slice_index list k + y))) (sym here) in
      let was : slice_index list k ≡ count n = so_far k in_range ∙ ap count here in
      let added : cond (k == n) y 0 ≡ y = cond-true _ _ _ (eq-eqb k n here) in
      omega (arith, at, same, was, added)
  | inr other ↦
      let at : slice_index (set list k (slice_index list k + y)) n ≡ slice_index list n = get_or-set_other list k n _ 0 (λ e. other (sym e)) in
      let none : cond (k == n) y 0 ≡ 0 = cond-false _ _ _ (ne_eqb k n other) in
      omega (arith, at, none, so_far n h)
]

-- and with one stay more it fits a machine word
pub one_more_fits : (p : Program) (sell : List ℕ) (test : ℕ → Bool) (j value : ℕ) → IsWithinLimits p → j < length p.stays →
    NoneAbove (λ j. (stay_at p j).forecast) (slice_index sell) (length p.stays) →
    value ≡ sum_below (λ i. cond (test i) (slice_index sell i) 0) j → value + slice_index sell j < 2 ^ 64
one_more_fits p sell test j value limits here within so_far =
    let sold = within j here in
    let forecast = limits.forecasts j no_stay here in
    let stays = limits.stays in
    let before = sold_is_small p sell test j limits (omega arith) within in
    omega (arith, sold, forecast, stays, before, so_far)

-- the load of the next night before its departures fits too
pub arrivals_fit : (p : Program) (sell : List ℕ) (n load_before : ℕ) → IsWithinLimits p →
    NoneAbove (λ j. (stay_at p j).forecast) (slice_index sell) (length p.stays) →
    load p sell n + departing p sell n ≡ load_before + arriving p sell n → load_before + arriving p sell n < 2 ^ 64
arrivals_fit p sell n load_before limits within moves =
    let m = length p.stays in
    let there = sold_is_small p sell (λ j. covers (stay_at p j).span n) m limits (omega arith) within in
    let out = sold_is_small p sell (λ j. (stay_at p j).span.to == n) m limits (omega arith) within in
    let stays = limits.stays in
    omega (arith, there, out, stays, moves)

-- the places before the next one are made
pub loads_more : (list : List ℕ) (of : ℕ → ℕ) (n value : ℕ) → length list ≡ MOST_NODES → n < MOST_NODES → value ≡ of n →
    ((k : ℕ) → k < n → slice_index list k ≡ of k) → (k : ℕ) → k < n + 1 → slice_index (set list n value) k ≡ of k
loads_more list of n value each in_range now made k h = elim (cases_eq k n) [
  | inl here ↦
      let at : slice_index (set list n value) n ≡ value = get_or-set_same list n value 0 (omega arith) in
      ap (slice_index (set list n value)) here ∙ at ∙ now ∙ sym (ap of here)
  | inr other ↦
      let at : slice_index (set list n value) k ≡ slice_index list k = get_or-set_other list n k value 0 other in
      at ∙ made k (omega arith)
]
