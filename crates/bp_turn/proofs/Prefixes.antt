-- Prefixes of lists, and the longer of two.
use Rattle.std.proofs.Common.{
  ◌≡◌,
  ◌<◌,
  ◌≤◌,
  nat_lt,
  cond,
  true,
  false,
  List,
  [],
  ◌∷◌,
  ◌++◌,
  length,
  ◌⊎◌,
  sym,
  refl,
  ap,
  ◌∙◌,
  subst,
  ⊎_elim,
  ltb-true,
  ltb-false,
  arith,
  append-nil,
  append_assoc,
  length-append,
}
use mathlib.Core.Logic.{dite}
use native.Mathlib.Decide.{dec_le}
use Rattle.bp_turn.specs.Prefix.{IsPrefix, longer, shorter}

module _ {E : Type 0} where
  -- a prefix is no longer
  pub prefix_le : (xs ys : List E) → IsPrefix xs ys → length xs ≤ length ys
  prefix_le xs ys (rest, e) = let n = ap length e in omega (arith, length-append xs rest, n)

  pub prefix_self : (xs : List E) → IsPrefix xs xs
  prefix_self xs = ([], sym (append-nil xs))

  pub prefix-push : (xs ys : List E) (e : E) → IsPrefix xs ys → IsPrefix xs (ys ++ e ∷ [])
  prefix-push xs ys e (rest, is) = (rest ++ e ∷ [], ap (λ (l : List E). l ++ e ∷ []) is ∙ append_assoc xs rest (e ∷ []))

  -- of two prefixes of one list the shorter is one of the longer
  pub prefix_of_prefix : (xs ys all : List E) → IsPrefix xs all → IsPrefix ys all → length xs ≤ length ys → IsPrefix xs ys
  prefix_of_prefix [] ys all p q le = (ys, refl)
  prefix_of_prefix (x ∷ xs) [] all p q le = absurd (omega arith)
  prefix_of_prefix (x ∷ xs) (y ∷ ys) [] p q le = absurd (let e = p.1 in cc)
  prefix_of_prefix (x ∷ xs) (y ∷ ys) (z ∷ all) p q le =
      let a = p.1 in let b = q.1 in
      let h : x ≡ y = cc in
      let t : all ≡ xs ++ p.0 = cc in
      let u : all ≡ ys ++ q.0 = cc in
      let r = prefix_of_prefix xs ys all (p.0, t) (q.0, u) (omega arith) in
      (r.0, λ i. sym h i ∷ r.1 i)

  pub empty : (xs : List E) → length xs ≡ 0 → xs ≡ []
  empty [] e = refl
  empty (x ∷ xs) e = absurd (omega arith)

  -- a prefix that is as long is the whole
  pub prefix_whole : (xs ys : List E) → IsPrefix xs ys → length ys ≤ length xs → xs ≡ ys
  prefix_whole [] ys (rest, e) le = sym (empty ys (omega arith))
  prefix_whole (x ∷ xs) [] (rest, e) le = absurd (cc)
  prefix_whole (x ∷ xs) (y ∷ ys) (rest, e) le = let h : y ≡ x = cc in let t : ys ≡ xs ++ rest = cc in let r = prefix_whole xs ys (rest, t) (omega arith) in
      λ i. sym h i ∷ r i

  pub last_same : (xs : List E) (x y : E) → xs ++ x ∷ [] ≡ xs ++ y ∷ [] → x ≡ y
  last_same [] x y e = cc
  last_same (z ∷ xs) x y e = last_same xs x y (cc)

  -- a fact of the longer list and the shorter, as the lengths have it
  pub of_longer : (P : List E → List E → Type 0) (xs ys : List E) → (length xs < length ys → P ys xs) → (length ys ≤ length xs → P xs ys) →
      P (longer xs ys) (shorter xs ys)
  of_longer P xs ys f g = (elim (nat_lt (length xs) (length ys)) as (λ b. nat_lt (length xs) (length ys) ≡ b →
      P (cond b ys xs) (cond b xs ys)) [ true ↦ λ e. f (ltb-true _ _ e) | false ↦ λ e. g (ltb-false _ _ e) ]) refl

  pub shorter_le : (xs ys : List E) → length (shorter xs ys) ≤ length (longer xs ys)
  shorter_le xs ys = of_longer (λ l k. length k ≤ length l) xs ys (λ lt. omega arith) (λ le. le)

  pub longer_ge : (xs ys : List E) → length xs ≤ length (longer xs ys)
  longer_ge xs ys = of_longer (λ l _. length xs ≤ length l) xs ys (λ lt. omega arith) (λ _. omega arith)

  -- where the shorter is a prefix of the longer, both are
  pub both_prefixes : (xs ys : List E) → IsPrefix (shorter xs ys) (longer xs ys) → IsPrefix xs (longer xs ys) × IsPrefix ys (longer xs ys)
  both_prefixes xs ys = of_longer (λ l k. IsPrefix k l → IsPrefix xs l × IsPrefix ys l) xs ys (λ _ b. (b, prefix_self ys)) (λ _ b. (prefix_self xs, b))

  -- of two prefixes of one list the longer and the shorter are prefixes of it
  pub longer_prefix : (xs ys all : List E) → IsPrefix xs all → IsPrefix ys all → IsPrefix (longer xs ys) all × IsPrefix (shorter xs ys) all
  longer_prefix xs ys all p q = of_longer (λ l k. IsPrefix l all × IsPrefix k all) xs ys (λ _. (q, p)) (λ _. (p, q))

  -- where one of them is the whole list, the longer is
  pub longer_whole : (xs ys all : List E) → IsPrefix xs all → IsPrefix ys all → (xs ≡ all) ⊎ (ys ≡ all) → longer xs ys ≡ all
  longer_whole xs ys all p q either = of_longer (λ l _. l ≡ all) xs ys
      (λ lt. ⊎_elim (λ (e : xs ≡ all). absurd (let n = ap length e in let m = prefix_le ys all q in omega arith)) (λ (e : ys ≡ all). e) either)
      (λ le. ⊎_elim (λ (e : xs ≡ all). e) (λ (e : ys ≡ all). prefix_whole xs all p (let n = ap length e in omega arith)) either)

  longer_second : (xs ys : List E) → length xs < length ys → longer xs ys ≡ ys
  longer_second xs ys lt = of_longer (λ l _. l ≡ ys) xs ys (λ _. refl) (λ le. absurd (omega arith))

  longer_first : (xs ys : List E) → length ys ≤ length xs → longer xs ys ≡ xs
  longer_first xs ys le = of_longer (λ l _. l ≡ xs) xs ys (λ lt. absurd (omega arith)) (λ _. refl)

  -- two prefixes of the longer of them make it the same from either side
  pub longer_comm : (xs ys : List E) → IsPrefix xs (longer xs ys) → IsPrefix ys (longer xs ys) → longer ys xs ≡ longer xs ys
  longer_comm xs ys p q = dite (dec_le (length ys) (length xs))
      (λ le. dite (dec_le (length xs) (length ys))
      (λ ge. let same : ys ≡ xs = prefix_whole ys xs (subst (IsPrefix ys) (longer_first xs ys le) q) ge in
      longer_first ys xs ge ∙ (same ∙ sym (longer_first xs ys le)))
      (λ gt. longer_second ys xs (omega arith) ∙ sym (longer_first xs ys le)))
      (λ lt. longer_first ys xs (omega arith) ∙ sym (longer_second xs ys (omega arith)))
