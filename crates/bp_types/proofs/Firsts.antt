-- The first of the numbers from one on that passes a test.
use Rattle.std.proofs.Common.{◌≡◌, ℕ, zero, suc, ◌+◌, ◌<◌, ◌≤◌, refl, ap, ◌∙◌, sym, arith, Bool, true, false, Some, None, inl, inr}
use Rattle.std.specs.List.{find, range_with_len}
use Rattle.std.proofs.lemmas.Bool.{cases_Bool, cases_eq, cond-true, cond-false}

pub find-range_none : (p : ℕ → Bool) (a n : ℕ) → ((k : ℕ) → a ≤ k → k < a + n → p k ≡ false) → find p (range_with_len a n) ≡ None
find-range_none p a zero none = refl
find-range_none p a (suc n) none =
    rw (cond-false _ _ _ (none a (omega arith) (omega arith))) (find-range_none p (a + 1) n (λ k above below. none k (omega arith) (omega arith)))

pub find-range_some : (p : ℕ → Bool) (a n i : ℕ) → a ≤ i → i < a + n → ((k : ℕ) → a ≤ k → k < i → p k ≡ false) → p i ≡ true →
    find p (range_with_len a n) ≡ Some i
find-range_some p a zero i above below before here = absurd (omega arith)
find-range_some p a (suc n) i above below before here =
    elim (cases_eq a i) [
      | inl e ↦ rw (cond-true _ _ _ (ap p e ∙ here)) (ap Some e)
      | inr ne ↦ rw (cond-false _ _ _ (before a (omega arith) (omega arith)))
          (find-range_some p (a + 1) n i (omega arith) (omega arith) (λ k h g. before k (omega arith) g) here)
    ]

-- none of the numbers passes where none is found
pub none_passes : (p : ℕ → Bool) (a n : ℕ) → find p (range_with_len a n) ≡ None → (k : ℕ) → a ≤ k → k < a + n → p k ≡ false
none_passes p a zero none k above below = absurd (omega arith)
none_passes p a (suc n) none k above below =
    elim (cases_Bool (p a)) [
      | inl passes ↦ absurd (let e : Some a ≡ None = sym (cond-true _ _ _ passes) ∙ none in (cc))
      | inr fails ↦ elim (cases_eq k a) [
        | inl e ↦ ap p e ∙ fails
        | inr ne ↦ none_passes p (a + 1) n (sym (cond-false _ _ _ fails) ∙ none) k (omega arith) (omega arith)
      ]
    ]

-- what it says that a number is the first to pass
pub record IsFirst (p : ℕ → Bool) (a n i : ℕ) : Type 0 where
  pub above : a ≤ i
  pub below : i < a + n
  pub passes : p i ≡ true
  pub before : (k : ℕ) → a ≤ k → k < i → p k ≡ false

pub first_passes : (p : ℕ → Bool) (a n i : ℕ) → find p (range_with_len a n) ≡ Some i → IsFirst p a n i
first_passes p a zero i found = absurd (cc)
first_passes p a (suc n) i found =
    elim (cases_Bool (p a)) [
      | inl passes ↦
          let same : Some a ≡ Some i = sym (cond-true _ _ _ passes) ∙ found in
          let e : a ≡ i = (cc) in
          record { above = omega arith; below = omega arith; passes = sym (ap p e) ∙ passes; before = λ k h g. absurd (omega arith) }
      | inr fails ↦
          let rest = first_passes p (a + 1) n i (sym (cond-false _ _ _ fails) ∙ found) in
          record {
            above = omega (arith, rest.above);
            below = omega (arith, rest.below);
            passes = rest.passes;
            before = λ k h g. elim (cases_eq k a) [ inl e ↦ ap p e ∙ fails | inr ne ↦ rest.before k (omega arith) g ];
          }
    ]
