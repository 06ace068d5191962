-- The price of a span is the fall of the potentials over it.
use Rattle.std.proofs.Common.{◌≡◌, ℕ, zero, suc, ◌+◌, ◌<◌, ◌≤◌, refl, ap, arith, true, false, cond, List, length, slice_index, inl, inr}
use Rattle.std.proofs.lemmas.Bool.{cases_lt, cond-true, cond-false, and_from, and_left, and_right, le-leb, lt-leb, lt-ltb, le-ltb}
use Rattle.bp_types.specs.declared.stay.Span.{Span}
use Rattle.bp_types.specs.Sums.{sum_below}
use Rattle.bp_types.specs.Program.{covers, price}
use Rattle.bp_types.specs.Optimum.{AreSuffixSums}

pub covers_inside : (a b n : ℕ) → a ≤ n → n < b → covers (record { from = a; to = b }) n ≡ true
covers_inside a b n above below = and_from _ _ (le-leb a n above) (lt-ltb n b below)

pub covers_before : (a b n : ℕ) → n < a → covers (record { from = a; to = b }) n ≡ false
covers_before a b n h = and_left _ _ (lt-leb a n h)

pub covers_past : (a b n : ℕ) → b ≤ n → covers (record { from = a; to = b }) n ≡ false
covers_past a b n h = and_right _ _ (le-ltb n b h)

-- the prices of the covered nights before m, and what is still to fall
part_is_fall : (u : ℕ → ℕ) (prices : List ℕ) (a b : ℕ) → AreSuffixSums u prices → a ≤ b → b ≤ length prices →
    (m : ℕ) →
    (m ≤ a → sum_below (λ n. cond (covers (record { from = a; to = b }) n) (slice_index prices n) 0) m ≡ 0)
    × (a ≤ m → m ≤ b → sum_below (λ n. cond (covers (record { from = a; to = b }) n) (slice_index prices n) 0) m + u m ≡ u a)
    × (b ≤ m → sum_below (λ n. cond (covers (record { from = a; to = b }) n) (slice_index prices n) 0) m + u b ≡ u a)
part_is_fall u prices a b sums ordered within zero =
    (λ h. refl, λ l r. let e : a ≡ 0 = omega arith in omega (arith, ap u e), λ h. let e : b ≡ a = omega arith in omega (arith, ap u e))
part_is_fall u prices a b sums ordered within (suc m) =
    let part : ℕ → ℕ = sum_below (λ n. cond (covers (record { from = a; to = b }) n) (slice_index prices n) 0) in
    let before = part_is_fall u prices a b sums ordered within m in
    let next : u (m + 1) ≡ u (suc m) = ap u (omega arith) in
    elim (cases_lt m a) [
      | inl left ↦
          let skip : part (suc m) ≡ part m = rw (cond-false _ _ _ (covers_before a b m left)) (omega arith) in
          let none : part m ≡ 0 = before.0 (omega arith) in (
            λ h. omega arith,
            λ l r. let e : a ≡ suc m = omega arith in omega (arith, ap u e),
            λ h. let e : b ≡ a = omega arith in omega (arith, ap u e),
          )
      | inr above ↦
          elim (cases_lt m b) [
            | inl inside ↦
                let add : part (suc m) ≡ part m + slice_index prices m = rw (cond-true _ _ _ (covers_inside a b m above inside)) refl in
                let fall : u m ≡ slice_index prices m + u (m + 1) = sums.falls m (omega arith) in
                let now : part m + u m ≡ u a = before.1 above (omega arith) in (
                  λ h. absurd (omega arith),
                  λ l r. omega arith,
                  λ h. let e : b ≡ suc m = omega arith in omega (arith, ap u e),
                )
            | inr past ↦
                let skip : part (suc m) ≡ part m = rw (cond-false _ _ _ (covers_past a b m past)) (omega arith) in
                let now : part m + u b ≡ u a = before.2 past in
                (λ h. absurd (omega arith), λ l r. absurd (omega arith), λ h. omega arith)
          ]
    ]

pub price_is_fall : (u : ℕ → ℕ) (prices : List ℕ) (s : Span) → AreSuffixSums u prices → s.from ≤ s.to → s.to ≤ length prices →
    price prices s + u s.to ≡ u s.from
price_is_fall u prices s sums ordered within = (part_is_fall u prices s.from s.to sums ordered within (length prices)).2 within
