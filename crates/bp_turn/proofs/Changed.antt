-- Lists of views of which one is changed, one more is added, or two are changed.
use Rattle.std.proofs.Common.{◌≡◌, ◌≢◌, ◌⊎◌, ℕ, zero, suc, true, false, List, [], ◌∷◌, ◌++◌, length, set, sym, refl, ap, ◌∙◌, subst, inl, inr, ⊎_elim}
use mathlib.Core.Option.{some, some-injective, some-ne-none}
use mathlib.Core.Logic.{dite}
use native.Mathlib.Decide.{ℕ_discrete}
use lib.ListN.{get_elem?}
use Rattle.atomic_table.proofs.Lists.{at_set, at_longer, set_else}
use Rattle.bp_turn.specs.declared.table.View.{View}
use Rattle.bp_turn.specs.Rule.{There, SomeHasTurn, NoneHasTurn}

pub at_there : {A : Type 0} (l : List A) (i : ℕ) (a b : A) → get_elem? l i ≡ some a → get_elem? (set l i b) i ≡ some b
at_there [] i a b e = absurd (some-ne-none a (sym e))
at_there (x ∷ xs) zero a b e = refl
at_there (x ∷ xs) (suc i) a b e = at_there xs i a b e

-- the last place of a longer list, or one before
at_end : {A : Type 0} (l : List A) (a b : A) (j : ℕ) → get_elem? (l ++ a ∷ []) j ≡ some b → (get_elem? l j ≡ some b) ⊎ ((j ≡ length l) × (a ≡ b))
at_end [] a b zero e = inr (refl, some-injective a b e)
at_end [] a b (suc j) e = absurd (some-ne-none b (sym e))
at_end (x ∷ xs) a b zero e = inl e
at_end (x ∷ xs) a b (suc j) e = ⊎_elim (λ t. inl t) (λ t. inr (ap suc t.0, t.1)) (at_end xs a b j e)

module _ {F E : Type 0} where
  -- what holds of the changed view and of the others holds of each
  pub one_set : (P : ℕ → View F E → Type 0) (views : List (View F E)) (id : ℕ) (w : View F E) → P id w →
      ((j : ℕ) (u : View F E) → j ≢ id → get_elem? views j ≡ some u → P j u)
      → (j : ℕ) (u : View F E) → get_elem? (set views id w) j ≡ some u → P j u
  one_set P views id w mine rest j u e = ⊎_elim
      (λ (t : (j ≡ id) × (w ≡ u)). subst (λ (x : ℕ × View F E). P x.0 x.1) (λ i. (sym t.0 i, t.1 i)) mine)
      (λ (t : (j ≢ id) × (get_elem? views j ≡ some u)). rest j u t.0 t.1)
      (at_set views id j w u e)

  -- the same of two changed views
  pub two_set : (P : ℕ → View F E → Type 0) (views : List (View F E)) (id k : ℕ) (v w : View F E) → P id v → P k w →
      ((j : ℕ) (u : View F E) → j ≢ id → j ≢ k → get_elem? views j ≡ some u → P j u)
      → (j : ℕ) (u : View F E) → get_elem? (set (set views id v) k w) j ≡ some u → P j u
  two_set P views id k v w p q rest = one_set P (set views id v) k w q
      (λ j u ne e. ⊎_elim
      (λ (t : (j ≡ id) × (v ≡ u)). subst (λ (x : ℕ × View F E). P x.0 x.1) (λ i. (sym t.0 i, t.1 i)) p)
      (λ (t : (j ≢ id) × (get_elem? views j ≡ some u)). rest j u t.0 ne t.1)
      (at_set views id j v u e))

  -- the same where a view is added
  pub one_more_view : (P : ℕ → View F E → Type 0) (views : List (View F E)) (w : View F E) (n : ℕ) → length views ≡ n →
      ((j : ℕ) (u : View F E) → get_elem? views j ≡ some u → P j u) → P n w
      → (j : ℕ) (u : View F E) → get_elem? (views ++ w ∷ []) j ≡ some u → P j u
  one_more_view P views w n is all new j u e =
      ⊎_elim (all j u) (λ (t : (j ≡ length views) × (w ≡ u)). subst (λ (x : ℕ × View F E). P x.0 x.1) (λ i. (sym (t.0 ∙ is) i, t.1 i)) new)
      (at_end views w u j e)

  -- who has a view of which P holds still has one, where the changed view keeps P
  pub still_there : (P : View F E → Type 0) (views : List (View F E)) (id : ℕ) (v w : View F E) → get_elem? views id ≡ some v → (P v → P w) → (j : ℕ) →
      There views j P → There (set views id w) j P
  still_there P views id v w at keep j (u, there, holds) = dite (ℕ_discrete j id)
      (λ e. let same : u ≡ v = some-injective u v (sym there ∙ (ap (get_elem? views) e ∙ at)) in
      subst (λ (k : ℕ). There (set views id w) k P) (sym e) (w, at_there views id v w at, keep (subst P same holds)))
      (λ ne. (u, set_else views id j w ne ∙ there, holds))

  pub there_longer : (P : View F E → Type 0) (views : List (View F E)) (w : View F E) (j : ℕ) → There views j P → There (views ++ w ∷ []) j P
  there_longer P views w j (u, there, holds) = (u, at_longer views (w ∷ []) j u there, holds)

  pub there_else : (P : View F E → Type 0) (views : List (View F E)) (k : ℕ) (w : View F E) (j : ℕ) → j ≢ k → There views j P → There (set views k w) j P
  there_else P views k w j ne (u, there, holds) = (u, set_else views k j w ne ∙ there, holds)

  -- a step of the seat id leaves the turn with who has it
  pub still_out : (views : List (View F E)) (id : ℕ) (v w : View F E) → get_elem? views id ≡ some v → (v.has_turn ≡ true → w.has_turn ≡ true) →
      SomeHasTurn views → SomeHasTurn (set views id w)
  still_out views id v w at keep (j, there) = (j, still_there (λ (u : View F E). u.has_turn ≡ true) views id v w at keep j there)

  pub still_in : (views : List (View F E)) (id : ℕ) (w : View F E) → w.has_turn ≡ false → NoneHasTurn views → NoneHasTurn (set views id w)
  still_in views id w off home = one_set (λ _ u. u.has_turn ≡ false) views id w off (λ j u _ there. home j u there)
