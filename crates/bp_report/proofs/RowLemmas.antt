-- Tables that are written row by row.
use Rattle.std.proofs.Common.{◌≡◌, ℕ, ◌+◌, ◌≤◌, ◌<◌, List, [], ◌∷◌, ◌++◌, map, take, drop, Option, Result, IsErr, sym, ap, subst, ◌∙◌, arith, append_assoc}
use Rattle.std.specs.List.{range_with_len}
use Rattle.std.proofs.lemmas.List.{append-nil, take-append-drop}
use Rattle.std.proofs.lemmas.List.FromFn.{map-range_with_len_more, take-map-range_with_len}
use Rattle.bp_edges.specs.Writing.{AppendedPrefix}
use Rattle.bp_text.specs.Lines.{Line, text_of}
use Rattle.bp_text.specs.Drafts.{IsDrafted, Drafts}
use Rattle.bp_text.proofs.DraftLemmas.{drafted_more, refused_more, refused_longer, Drafts-refused}
use Rattle.bp_text.proofs.StageLemmas.{text_of-append}

-- the text of the first rows of a table
abbrev pub rows_text : (ℕ → Line) → ℕ → List ℕ
rows_text row n = text_of (map row (range_with_len 0 n))

rows-more : (row : ℕ → Line) (i : ℕ) → rows_text row (i + 1) ≡ rows_text row i ++ (row i ++ 10 ∷ [])
rows-more row i =
    ap text_of (map-range_with_len_more row 0 i i (omega arith)) ∙ text_of-append (map row (range_with_len 0 i)) (row i ∷ [])
    ∙ ap (λ t. rows_text row i ++ t) (append-nil (row i ++ 10 ∷ []))

rows-rest : (row : ℕ → Line) (i n : ℕ) → i ≤ n → rows_text row n ≡ rows_text row i ++ text_of (drop i (map row (range_with_len 0 n)))
rows-rest row i n few =
    ap text_of (sym (take-append-drop i (map row (range_with_len 0 n)))) ∙
    text_of-append (take i (map row (range_with_len 0 n))) (drop i (map row (range_with_len 0 n)))
    ∙ ap (λ t. text_of t ++ text_of (drop i (map row (range_with_len 0 n)))) (take-map-range_with_len row 0 n i few)

-- a row more behind a draft
pub row_drafted : {before middle now : Option (List ℕ)} (old draft new : List ℕ) (row : ℕ → Line) (i : ℕ)
    → IsDrafted before middle draft (old ++ rows_text row i) → IsDrafted middle now new (draft ++ (row i ++ 10 ∷ [])) →
    IsDrafted before now new (old ++ rows_text row (i + 1))
row_drafted {before} {middle} {now} old draft new row i so_far more =
    let P : List ℕ → Type 0 = λ t. IsDrafted before now new t in
    subst P (append_assoc old (rows_text row i) (row i ++ 10 ∷ []) ∙ ap (λ t. old ++ t) (sym (rows-more row i)))
    (drafted_more draft new (old ++ rows_text row i) (row i ++ 10 ∷ []) so_far more)

-- a row that was refused
pub row_refused : {E : Type 0} (before middle now : Option (List ℕ)) (old draft new : List ℕ) (row : ℕ → Line) (i n : ℕ) (result : Result (Unit {0}) E)
    → i < n → IsDrafted before middle draft (old ++ rows_text row i) → AppendedPrefix middle now (draft ++ (row i ++ 10 ∷ [])) → IsErr result →
    Drafts before now old new (rows_text row n) result
row_refused before middle now old draft new row i n result within so_far part refused =
    let P : List ℕ → Type 0 = λ t. AppendedPrefix before now t in
    let front = append_assoc old (rows_text row i) (row i ++ 10 ∷ []) ∙ ap (λ t. old ++ t) (sym (rows-more row i)) in
    let here = subst P front (refused_more draft (old ++ rows_text row i) (row i ++ 10 ∷ []) so_far part) in
    let whole = refused_longer old (rows_text row (i + 1)) (text_of (drop (i + 1) (map row (range_with_len 0 n)))) here in
    Drafts-refused before now old new (rows_text row n) result refused (subst P (ap (λ t. old ++ t) (sym (rows-rest row (i + 1) n (omega arith)))) whole)
