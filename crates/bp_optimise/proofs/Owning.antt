-- The vectors of a caller, in a longer history.
use Rattle.std.proofs.Common.{
  ◌≡◌,
  ℕ,
  Bool,
  true,
  false,
  ◌&&◌,
  cond,
  [],
  ◌∷◌,
  ◌++◌,
  length,
  take,
  refl,
  sym,
  ap,
  subst,
  ◌∙◌,
  arith,
  append-nil,
  append_assoc,
  length-append,
}
use mathlib.Core.Logic.{dite}
use native.Mathlib.Decide.{dec_lt}
use Rattle.std.proofs.Math.Seq.{take-length}
use Rattle.std.proofs.lemmas.List.{take-append-le}
use Rattle.std.proofs.lemmas.List.Elements.{filter-append}
use Rattle.bp_types.specs.House.{Inn}
use Rattle.bp_turn.specs.Prefix.{IsPrefix}
use Rattle.bp_core.specs.declared.line.Line.{Line}
use Rattle.bp_core.specs.Lines.{History, line_at, is_by, is_publish, calls}
use Rattle.bp_core.proofs.Pushes.{line_at-old, line_at-new}
use Rattle.bp_optimise.specs.Vectors.{IsLeastVector, OwnVectors}

-- one line more
pub own_push : (h : Inn) (least : ℕ) (G : History) (x : Line) (c : ℕ) → OwnVectors h least G c →
    ((is_by c x && is_publish x) ≡ true → IsLeastVector h least G x) → OwnVectors h least (G ++ x ∷ []) c
own_push h least G x c own new i lt is = dite (dec_lt i (length G))
    (λ old.
    let at : line_at (G ++ x ∷ []) i ≡ line_at G i = line_at-old G x i old in
    let before : take i (G ++ x ∷ []) ≡ take i G = take-append-le i G (x ∷ []) (omega (arith, old)) in
    let P : Line → Type 0 = λ y. (is_by c y && is_publish y) ≡ true in
    let there : IsLeastVector h least (take i G) (line_at G i) = own i old (subst P at is) in
    subst (λ B. IsLeastVector h least B (line_at (G ++ x ∷ []) i)) (sym before) (subst (λ y. IsLeastVector h least (take i G) y) (sym at) there))
    (λ last.
    let e : i ≡ length G = omega (arith, lt, last, length-append G (x ∷ [])) in
    let at : line_at (G ++ x ∷ []) i ≡ x = ap (line_at (G ++ x ∷ [])) e ∙ line_at-new G x in
    let before : take i (G ++ x ∷ []) ≡ G = ap (λ k. take k (G ++ x ∷ [])) e ∙ take-append-le (length G) G (x ∷ []) (omega arith) ∙ take-length G in
    let P : Line → Type 0 = λ y. (is_by c y && is_publish y) ≡ true in
    subst (λ B. IsLeastVector h least B (line_at (G ++ x ∷ []) i)) (sym before) (subst (λ y. IsLeastVector h least G y) (sym at) (new (subst P at is))))

-- lines of others
pub own_quiet : (h : Inn) (least : ℕ) (c : ℕ) (rest G : History) → calls rest c ≡ [] → OwnVectors h least G c → OwnVectors h least (G ++ rest) c
own_quiet h least c [] G none own = subst (λ H. OwnVectors h least H c) (sym (append-nil G)) own
own_quiet h least c (x ∷ rest) G none own = go (own_quiet h least c rest (G ++ x ∷ [])) (is_by c x) refl none
  where
    go : (calls rest c ≡ [] → OwnVectors h least (G ++ x ∷ []) c → OwnVectors h least ((G ++ x ∷ []) ++ rest) c) → (b : Bool) → is_by c x ≡ b →
        cond b (x ∷ calls rest c) (calls rest c) ≡ [] → OwnVectors h least (G ++ x ∷ rest) c
    go on true e n = absurd (cc)
    go on false e n =
        let pushed : OwnVectors h least (G ++ x ∷ []) c =
        own_push h least G x c own (λ t. absurd (let f : false ≡ true = sym (ap (λ b. b && is_publish x) e) ∙ t in cc)) in
        subst (λ H. OwnVectors h least H c) (append_assoc G (x ∷ []) rest) (on n pushed)

no_more : (xs ys zs : History) → zs ≡ xs ++ ys → zs ≡ xs → ys ≡ []
no_more xs [] zs e f = refl
no_more xs (y ∷ ys) zs e f = absurd (let n = ap length e in let m = ap length f in omega (arith, n, m, length-append xs (y ∷ ys)))

-- a longer history with no call of the caller more
pub own_longer : (h : Inn) (least : ℕ) (c : ℕ) (G H : History) → IsPrefix G H → calls H c ≡ calls G c → OwnVectors h least G c → OwnVectors h least H c
own_longer h least c G H (rest, is) same own =
    let parted : calls H c ≡ calls G c ++ calls rest c = ap (λ K. calls K c) is ∙ filter-append (is_by c) G rest in
    subst (λ K. OwnVectors h least K c) (sym is) (own_quiet h least c rest G (no_more (calls G c) (calls rest c) (calls H c) parted same) own)
