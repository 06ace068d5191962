-- A text that grows piece by piece.
use Rattle.std.proofs.Common.{
  ◌≡◌,
  ℕ,
  ◌≤◌,
  List,
  [],
  ◌++◌,
  length,
  take,
  drop,
  Option,
  None,
  Some,
  Result,
  Ok,
  Err,
  IsErr,
  refl,
  sym,
  ap,
  ◌∙◌,
  append_assoc,
  length-append,
  arith,
}
use Rattle.std.proofs.Math.Seq.{take-append-add, take-append_seam}
use Rattle.std.proofs.lemmas.List.{take-append-le, take-append-drop, take-take, length-take, append-nil}
use Rattle.std.specs.Io.{StartsWith}
use Rattle.std.specs.Io.KnownBytes.{Appends}
use Rattle.bp_edges.specs.Writing.{Appended, AppendedPrefix, Writes}

-- what a text starts with is no longer than it
length-StartsWith : (xs part : List ℕ) → StartsWith xs part → length part ≤ length xs
length-StartsWith xs part starts = omega (arith, length-take (length part) xs, ap length starts)

-- a longer text starts with the same
pub StartsWith-append : (xs ys part : List ℕ) → StartsWith xs part → StartsWith (xs ++ ys) part
StartsWith-append xs ys part starts =
    take-append-le (length part) xs ys (length-StartsWith xs part starts) ∙ starts

-- so does one with the same in front of both
pub StartsWith-append_both : (xs ys part : List ℕ) → StartsWith ys part → StartsWith (xs ++ ys) (xs ++ part)
StartsWith-append_both xs ys part starts =
    ap (λ n. take n (xs ++ ys)) (length-append xs part) ∙ take-append-add xs ys (length part) ∙ ap (λ l. xs ++ l) starts

-- what it starts with starts with the same
pub StartsWith-StartsWith : (xs ys part : List ℕ) → StartsWith xs ys → StartsWith ys part → StartsWith xs part
StartsWith-StartsWith xs ys part whole starts =
    sym (take-take (length part) (length ys) xs (length-StartsWith ys part starts))
    ∙ ap (λ l. take (length part) l) whole ∙ starts

-- nothing written is the empty piece
pub Appended-empty : (told : Option (List ℕ)) → Appended told told []
Appended-empty told = record { grown = λ text e. e ∙ ap Some (sym (append-nil text)) }

-- and is a first part of any piece
pub AppendedPrefix-empty : (told : Option (List ℕ)) (piece : List ℕ) → AppendedPrefix told told piece
AppendedPrefix-empty told piece = record { grown = λ text e. ([], refl, e ∙ ap Some (sym (append-nil text))) }

-- two pieces, one after the other, are the piece of both
pub Appended-append : {before middle now : Option (List ℕ)} (first second : List ℕ)
    → Appended before middle first → Appended middle now second → Appended before now (first ++ second)
Appended-append first second a b =
    record { grown = λ text e. b.grown (text ++ first) (a.grown text e) ∙ ap Some (append_assoc text first second) }

-- a piece, and then a first part of another, are a first part of both
pub AppendedPrefix-append : {before middle now : Option (List ℕ)} (first second : List ℕ)
    → Appended before middle first → AppendedPrefix middle now second → AppendedPrefix before now (first ++ second)
AppendedPrefix-append first second a b =
    record {
      grown = λ text e.
          let w = b.grown (text ++ first) (a.grown text e) in
          (first ++ w.0, StartsWith-append_both first second w.0 w.1, w.2 ∙ ap Some (append_assoc text first w.0));
    }

-- a first part of what a text starts with is a first part of the text
pub AppendedPrefix-of : {before now : Option (List ℕ)} (whole piece : List ℕ)
    → StartsWith whole piece → AppendedPrefix before now piece → AppendedPrefix before now whole
AppendedPrefix-of whole piece starts a =
    record { grown = λ text e. let w = a.grown text e in (w.0, StartsWith-StartsWith whole piece w.0 starts w.1, w.2) }

-- a first part of a piece is a first part of a text that begins with the piece
pub AppendedPrefix-longer : {before now : Option (List ℕ)} (first second : List ℕ)
    → AppendedPrefix before now first → AppendedPrefix before now (first ++ second)
AppendedPrefix-longer first second a = AppendedPrefix-of (first ++ second) first (take-append_seam first second) a

-- so is the whole piece
pub Appended-prefix : {before now : Option (List ℕ)} (first second : List ℕ)
    → Appended before now first → AppendedPrefix before now (first ++ second)
Appended-prefix first second a =
    record { grown = λ text e. (first, take-append_seam first second, a.grown text e) }

none_is_some : (text : List ℕ) → None ≡ Some text → ⊥
none_is_some text e = cc

-- what a writer says of its bytes, as the same of a told text
pub Appended-from : (before now : Option (List ℕ)) (piece : List ℕ) → Appends before now piece → Appended before now piece
Appended-from None now piece h = record { grown = λ text e. absurd (none_is_some text e) }
Appended-from (Some xs) None piece h = absurd h
Appended-from (Some xs) (Some ys) piece h = record { grown = λ text e. let same : xs ≡ text = cc in ap Some h ∙ ap (λ l. Some (l ++ piece)) same }

-- a first part, some more of the rest, and what is left then
pub split_again : (part rest : List ℕ) (n : ℕ) → part ++ rest ≡ part ++ take n rest ++ drop n rest
split_again part rest n =
    ap (λ l. part ++ l) (sym (take-append-drop n rest)) ∙ sym (append_assoc part (take n rest) (drop n rest))

-- a refused writer wrote a first part of its text
pub Writes-refused : {E : Type 0} {before now : Option (List ℕ)} {piece : List ℕ} (result : Result (Unit {0}) E)
    → IsErr result → AppendedPrefix before now piece → Writes before now piece result
Writes-refused (Ok _) refused part = absurd (cc)
Writes-refused (Err e) refused part = part
