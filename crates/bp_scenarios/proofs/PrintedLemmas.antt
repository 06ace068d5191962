-- What of the outcomes is written, line by line.
use Rattle.std.proofs.Common.{
  ◌≡◌,
  ℕ,
  ◌+◌,
  ◌<◌,
  ◌≤◌,
  refl,
  ap,
  sym,
  subst,
  ◌∙◌,
  arith,
  List,
  [],
  ◌∷◌,
  ◌++◌,
  length,
  take,
  drop,
  append_assoc,
  get_or,
  Option,
  Result,
  IsErr,
}
use Rattle.std.proofs.lemmas.List.{take-append-drop, length-take-le, take_all, take_more}
use Rattle.bp_edges.specs.Writing.{AppendedPrefix}
use Rattle.bp_edges.proofs.Grows.{AppendedPrefix-longer}
use Rattle.bp_text.specs.Lines.{text_of}
use Rattle.bp_text.specs.Drafts.{IsDrafted, Drafts}
use Rattle.bp_text.proofs.DraftLemmas.{drafted_more, refused_more, Drafts-refused}
use Rattle.bp_text.proofs.StageLemmas.{text_of-append}
use Rattle.bp_scenarios.specs.declared.outcome.Outcome.{Outcome}
use Rattle.bp_scenarios.specs.Printed.{outcome_line, outcome_lines}

-- the text of the outcomes before a place
abbrev pub so_far : List Outcome → ℕ → List ℕ
so_far os n = text_of (outcome_lines 1 (take n os))

-- the text of the one there, where another stands past the end
abbrev pub line_text : List Outcome → ℕ → Outcome → List ℕ
line_text os n d = text_of (outcome_line (n + 1) (get_or os n d) ∷ [])

outcome_lines-append : (number : ℕ) (xs ys : List Outcome) → outcome_lines number (xs ++ ys) ≡ outcome_lines number xs ++ outcome_lines (number + length xs) ys
outcome_lines-append number [] ys = ap (λ n. outcome_lines n ys) (let e : number ≡ number + 0 = omega arith in e)
outcome_lines-append number (x ∷ xs) ys =
    ap (λ ls. outcome_line number x ∷ ls) (outcome_lines-append (number + 1) xs ys)
    ∙ ap (λ n. outcome_line number x ∷ (outcome_lines (number + 1) xs ++ outcome_lines n ys)) (let e : number + 1 + length xs ≡ number + length (x ∷ xs) =
    omega arith in e)

so_far_more : (os : List Outcome) (n : ℕ) (d : Outcome) → n < length os → so_far os (n + 1) ≡ so_far os n ++ line_text os n d
so_far_more os n d within =
    ap (λ xs. text_of (outcome_lines 1 xs)) (take_more os n d within)
    ∙ ap text_of (outcome_lines-append 1 (take n os) (get_or os n d ∷ []))
    ∙ ap (λ k. text_of (outcome_lines 1 (take n os) ++ outcome_line k (get_or os n d) ∷ [])) (let e : 1 + length (take n os) ≡ n + 1 =
    omega (arith, length-take-le n os (omega arith)) in e)
    ∙ text_of-append (outcome_lines 1 (take n os)) (outcome_line (n + 1) (get_or os n d) ∷ [])

behind_so_far : (os : List Outcome) (n : ℕ) → text_of (outcome_lines 1 os) ≡ so_far os n ++ text_of (outcome_lines (1 + length (take n os)) (drop n os))
behind_so_far os n =
    ap (λ xs. text_of (outcome_lines 1 xs)) (sym (take-append-drop n os))
    ∙ ap text_of (outcome_lines-append 1 (take n os) (drop n os))
    ∙ text_of-append (outcome_lines 1 (take n os)) (outcome_lines (1 + length (take n os)) (drop n os))

-- the line of a place went well
pub line_drafted : (before middle now : Option (List ℕ)) (old draft new : List ℕ) (os : List Outcome) (n number : ℕ) (x : Outcome) → n < length os →
    number ≡ n + 1 → x ≡ get_or os n x
    → IsDrafted before middle draft (old ++ so_far os n) → IsDrafted middle now new (draft ++ text_of (outcome_line number x ∷ [])) →
    IsDrafted before now new (old ++ so_far os (n + 1))
line_drafted before middle now old draft new os n number x within same here first second =
    let P : List ℕ → Type 0 = λ t. IsDrafted before now new t in
    let Q : ℕ → Outcome → Type 0 = λ k y. IsDrafted middle now new (draft ++ text_of (outcome_line k y ∷ [])) in
    subst P (append_assoc old (so_far os n) (line_text os n x) ∙ ap (λ t. old ++ t) (sym (so_far_more os n x within)))
    (drafted_more draft new (old ++ so_far os n) (line_text os n x) first (subst (Q (n + 1)) here (subst (λ k. Q k x) same second)))

-- or it was refused
pub line_refused : {E : Type 0} (before middle now : Option (List ℕ)) (old draft new : List ℕ) (os : List Outcome) (n number : ℕ) (x : Outcome)
    (result : Result (Unit {0}) E) → n < length os → number ≡ n + 1 → x ≡ get_or os n x
    → IsDrafted before middle draft (old ++ so_far os n) → AppendedPrefix middle now (draft ++ text_of (outcome_line number x ∷ [])) → IsErr result →
    Drafts before now old new (text_of (outcome_lines 1 os)) result
line_refused before middle now old draft new os n number x result within same here first second refused =
    let rest = text_of (outcome_lines (1 + length (take (n + 1) os)) (drop (n + 1) os)) in
    let whole : old ++ text_of (outcome_lines 1 os) ≡ ((old ++ so_far os n) ++ line_text os n x) ++ rest =
    ap (λ t. old ++ t) (behind_so_far os (n + 1) ∙ ap (λ t. t ++ rest) (so_far_more os n x within))
    ∙ sym (append_assoc old (so_far os n ++ line_text os n x) rest)
    ∙ ap (λ t. t ++ rest) (sym (append_assoc old (so_far os n) (line_text os n x))) in
    let P : List ℕ → Type 0 = λ t. AppendedPrefix before now t in
    let Q : ℕ → Outcome → Type 0 = λ k y. AppendedPrefix middle now (draft ++ text_of (outcome_line k y ∷ [])) in
    Drafts-refused before now old new (text_of (outcome_lines 1 os)) result refused
    (subst P (sym whole) (AppendedPrefix-longer ((old ++ so_far os n) ++ line_text os n x) rest
    (refused_more draft (old ++ so_far os n) (line_text os n x) first (subst (Q (n + 1)) here (subst (λ k. Q k x) same second)))))

-- behind the last place
pub all_drafted : (before now : Option (List ℕ)) (old new : List ℕ) (os : List Outcome) (n : ℕ) → length os ≤ n →
    IsDrafted before now new (old ++ so_far os n) → IsDrafted before now new (old ++ text_of (outcome_lines 1 os))
all_drafted before now old new os n all first =
    let P : List Outcome → Type 0 = λ xs. IsDrafted before now new (old ++ text_of (outcome_lines 1 xs)) in
    subst P (take_all n os all) first
