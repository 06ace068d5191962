-- Members of a list that grows by one at its end, and lists that have the same members.
use Rattle.std.proofs.Common.{◌≡◌, ℕ, zero, suc, refl, ap, sym, subst, arith, List, [], ◌∷◌, ◌++◌, length, Option, Some, None, inl, inr}
use Rattle.std.specs.Prelude.{◌⊎◌, slice_get}

pub member_of_more : {X : Type 0} (xs : List X) (x y : X) (n : ℕ) → slice_get (xs ++ x ∷ []) n ≡ Some y →
    (slice_get xs n ≡ Some y) ⊎ ((n ≡ length xs) × (x ≡ y))
member_of_more [] x y zero is = inr (refl, (cc))
member_of_more [] x y (suc n) is = absurd (cc)
member_of_more (z ∷ xs) x y zero is = inl is
member_of_more (z ∷ xs) x y (suc n) is =
    elim (member_of_more xs x y n is) [
      | inl before ↦ inl before
      | inr last ↦ inr (ap suc last.0, last.1)
    ]

-- a fact of each member, with its number, is one of a list with one member more where it holds of that
pub each_of_more : {X : Type 0} (P : ℕ → X → Type 0) (xs : List X) (x : X) → ((n : ℕ) (y : X) → slice_get xs n ≡ Some y → P n y) → P (length xs) x →
    (n : ℕ) (y : X) → slice_get (xs ++ x ∷ []) n ≡ Some y → P n y
each_of_more P xs x each last n y is =
    elim (member_of_more xs x y n is) [
      | inl before ↦ each n y before
      | inr (here, same) ↦ subst (λ k. P k y) (sym here) (subst (P (length xs)) same last)
    ]

-- lists of one length are one list where each member of the one is that of the other
pub same_members : {X : Type 0} (xs ys : List X) → length xs ≡ length ys → ((n : ℕ) (x y : X) → slice_get xs n ≡ Some x → slice_get ys n ≡ Some y → x ≡ y) →
    xs ≡ ys
same_members [] [] same each = refl
same_members [] (y ∷ ys) same each = absurd (omega arith)
same_members (x ∷ xs) [] same each = absurd (omega arith)
same_members (x ∷ xs) (y ∷ ys) same each =
    let heads : x ≡ y = each zero x y refl refl in
    let tails : xs ≡ ys = same_members xs ys (omega arith) (λ n. each (suc n)) in
    (cc)
