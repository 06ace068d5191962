-- The entries of one caller in prefixes of the history.
use Rattle.std.proofs.Common.{◌≡◌, ◌≢◌, ℕ, ◌==◌, Bool, cond, List, [], ◌∷◌, ◌++◌, length, sym, refl, ap, ◌∙◌, arith, append-nil, length-append, eq-eqb, ne_eqb}
use Rattle.std.specs.List.{All}
use Rattle.std.proofs.lemmas.List.Elements.{filter-append, All-head, All-tail}
use Rattle.bp_turn.specs.Prefix.{IsPrefix, longer}
use Rattle.bp_turn.specs.Callers.{entries_by}
use Rattle.bp_turn.proofs.Prefixes.{empty, of_longer, prefix_of_prefix}

append_none : {E : Type 0} (xs ys : List E) → xs ++ ys ≡ [] → xs ≡ []
append_none [] ys e = refl
append_none (x ∷ xs) ys e = absurd (cc)

module _ {E : Type 0} (caller : E → ℕ) (n : ℕ) where
  abbrev by : List E → List E
  by = entries_by caller n

  -- who has no entry in a list has none in a prefix of it
  pub none_before : (xs all : List E) → IsPrefix xs all → by all ≡ [] → by xs ≡ []
  none_before xs all (rest, e) none = append_none (by xs) (by rest) (sym (filter-append (λ x. caller x == n) xs rest) ∙ (ap by (sym e) ∙ none))

  -- an entry more of this caller, and one of another
  pub one_more : (xs : List E) (e : E) → caller e ≡ n → by (xs ++ e ∷ []) ≡ by xs ++ e ∷ []
  one_more xs e is = filter-append (λ x. caller x == n) xs (e ∷ []) ∙ ap (λ (b : Bool). by xs ++ cond b (e ∷ []) []) (eq-eqb (caller e) n is)

  pub no_more : (xs : List E) (e : E) → caller e ≢ n → by (xs ++ e ∷ []) ≡ by xs
  no_more xs e is = filter-append (λ x. caller x == n) xs (e ∷ []) ∙
      (ap (λ (b : Bool). by xs ++ cond b (e ∷ []) []) (ne_eqb (caller e) n is) ∙ append-nil (by xs))

  -- what is the same in two prefixes is the same between them
  between : (xs ys all es : List E) → IsPrefix xs ys → IsPrefix ys all → by xs ≡ es → by all ≡ es → by ys ≡ es
  between xs ys all es p q at_xs at_all =
      let a : by ys ≡ by xs ++ by p.0 = ap by p.1 ∙ filter-append (λ x. caller x == n) xs p.0 in
      let b : by all ≡ by ys ++ by q.0 = ap by q.1 ∙ filter-append (λ x. caller x == n) ys q.0 in
      let l = ap length a in let m = ap length b in let k = ap length at_xs in let o = ap length at_all in
      let none : length (by p.0) ≡ 0 = omega (arith, length-append (by xs) (by p.0), length-append (by ys) (by q.0)) in
      a ∙ (ap (λ (l : List E). by xs ++ l) (empty (by p.0) none) ∙ (append-nil (by xs) ∙ at_xs))

  -- what either list has of the caller, and the whole history too, the longer has
  pub longer_has : (xs ys all es : List E) → IsPrefix xs all → IsPrefix ys all → by xs ≡ es → by all ≡ es → by (longer xs ys) ≡ es
  longer_has xs ys all es p q here whole =
      of_longer (λ l _. by l ≡ es) xs ys (λ lt. between xs ys all es (prefix_of_prefix xs ys all p q (omega arith)) q here whole) (λ _. here)

  pub longer_has_second : (xs ys all es : List E) → IsPrefix xs all → IsPrefix ys all → by ys ≡ es → by all ≡ es → by (longer xs ys) ≡ es
  longer_has_second xs ys all es p q here whole =
      of_longer (λ l _. by l ≡ es) xs ys (λ _. here) (λ le. between ys xs all es (prefix_of_prefix ys xs all q p le) p here whole)

module _ {E : Type 0} (caller : E → ℕ) where
  -- where all entries are of one caller
  pub all_of : (n : ℕ) (xs : List E) → All (λ (e : E). caller e ≡ n) xs → entries_by caller n xs ≡ xs
  all_of n [] h = refl
  all_of n (x ∷ xs) h = ap (λ (b : Bool). cond b (x ∷ entries_by caller n xs) (entries_by caller n xs))
      (eq-eqb (caller x) n (All-head (λ (e : E). caller e ≡ n) x xs h)) ∙ ap (λ (l : List E). x ∷ l) (all_of n xs (All-tail (λ (e : E). caller e ≡ n) x xs h))

  pub none_of : (n m : ℕ) (xs : List E) → m ≢ n → All (λ (e : E). caller e ≡ n) xs → entries_by caller m xs ≡ []
  none_of n m [] ne h = refl
  none_of n m (x ∷ xs) ne h =
      ap (λ (b : Bool). cond b (x ∷ entries_by caller m xs) (entries_by caller m xs))
      (ne_eqb (caller x) m (λ e. ne (sym e ∙ All-head (λ (e : E). caller e ≡ n) x xs h))) ∙ none_of n m xs ne (All-tail (λ (e : E). caller e ≡ n) x xs h)
