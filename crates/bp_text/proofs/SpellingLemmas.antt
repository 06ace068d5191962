-- Texts of lines can be told apart, and are read in one way.
use Rattle.std.proofs.Common.{◌≡◌, ℕ, suc, ◌≤◌, refl, ap, sym, subst, ◌∙◌, arith, List, [], ◌∷◌, ◌++◌, length, All, append_assoc, length-append, inl, inr}
use Rattle.std.proofs.lemmas.Bool.{cases_lt}
use Rattle.std.proofs.lemmas.List.{append-nil}
use Rattle.bp_text.specs.Lines.{Line, text_of, HasNoEnd}
use Rattle.bp_text.specs.Reading.{Begins}
use Rattle.bp_text.specs.Laws.{HasOneSpelling, IsPrefixFree}
use Rattle.bp_text.proofs.EndLemmas.{all_head, all_tail}

-- the lines of every value have no ends in them, and those of one do not go on behind those of another
pub record IsSpelling {V : Type 0} (lines : V → List Line) : Type 0 where
  pub no_ends : (v : V) → All HasNoEnd (lines v)
  pub alone : (v w : V) (rest : List Line) → lines w ≡ lines v ++ rest → (v ≡ w) × (rest ≡ [])

lacks_tail : (b : ℕ) (bs : List ℕ) → HasNoEnd (b ∷ bs) → HasNoEnd bs
lacks_tail b bs none k d h = none (suc k) d (omega arith)

-- the first line's end is where it is
same_line : (x y r s : List ℕ) → HasNoEnd x → HasNoEnd y → x ++ 10 ∷ r ≡ y ++ 10 ∷ s → (x ≡ y) × (r ≡ s)
same_line [] [] r s no_x no_y e = let t : r ≡ s = cc in (refl, t)
same_line [] (b ∷ y) r s no_x no_y e = let h : 10 ≡ b = cc in absurd (no_y 0 0 (omega arith) (sym h))
same_line (a ∷ x) [] r s no_x no_y e = let h : a ≡ 10 = cc in absurd (no_x 0 0 (omega arith) h)
same_line (a ∷ x) (b ∷ y) r s no_x no_y e =
    let h : a ≡ b = cc in
    let t : x ++ 10 ∷ r ≡ y ++ 10 ∷ s = cc in
    let rest = same_line x y r s (lacks_tail a x no_x) (lacks_tail b y no_y) t in
    (ap (λ c. c ∷ x) h ∙ ap (λ cs. b ∷ cs) rest.0, rest.1)

text_cons : (x : Line) (xs : List Line) (r : List ℕ) → text_of (x ∷ xs) ++ r ≡ x ++ 10 ∷ (text_of xs ++ r)
text_cons x xs r = append_assoc (x ++ 10 ∷ []) (text_of xs) r ∙ append_assoc x (10 ∷ []) (text_of xs ++ r)

-- of two lists of lines before the same bytes, the shorter begins the longer
pub same_lines : (xs ys : List Line) (r s : List ℕ) → All HasNoEnd xs → All HasNoEnd ys → text_of xs ++ r ≡ text_of ys ++ s → length xs ≤ length ys →
    (rest : List Line) × (ys ≡ xs ++ rest) × (r ≡ text_of rest ++ s)
same_lines [] ys r s no_x no_y e short = (ys, refl, e)
same_lines (x ∷ xs) [] r s no_x no_y e short = absurd (omega arith)
same_lines (x ∷ xs) (y ∷ ys) r s no_x no_y e short =
    let first = same_line x y (text_of xs ++ r) (text_of ys ++ s) (all_head x xs no_x) (all_head y ys no_y) (sym (text_cons x xs r) ∙ e ∙ text_cons y ys s) in
    let more = same_lines xs ys r s (all_tail x xs no_x) (all_tail y ys no_y) first.1 (omega arith) in
    (more.0, ap (λ l. l ∷ ys) (sym first.0) ∙ ap (λ ls. x ∷ ls) more.1, more.2)

-- lines in front of an unfinished one are not all before bytes without an end
pub end_stands : (rest : List Line) (s : List ℕ) → HasNoEnd (text_of rest ++ s) → rest ≡ []
end_stands [] s none = refl
end_stands (x ∷ xs) s none = absurd (at_end x (text_of xs ++ s) (let P : List ℕ → Type 0 = λ bs. HasNoEnd bs in subst P (text_cons x xs s) none))
  where
    at_end : (x : Line) (more : List ℕ) → HasNoEnd (x ++ 10 ∷ more) → ⊥
    at_end [] more none = none 0 0 (omega arith) refl
    at_end (b ∷ bs) more none = at_end bs more (lacks_tail b (bs ++ 10 ∷ more) none)

-- lines that begin a text are not behind a whole one
pub not_behind : {V : Type 0} (lines : V → List Line) (Within : V → Type 0) (front : List Line) → IsSpelling lines → Begins lines Within front →
    (v : V) (rest : List Line) → front ≡ lines v ++ rest → ⊥
not_behind lines Within front s b v rest e =
    let whole : lines b.0 ≡ lines v ++ (rest ++ b.1 ∷ b.2) = b.4 ∙ ap (λ ls. ls ++ b.1 ∷ b.2) e ∙ append_assoc (lines v) rest (b.1 ∷ b.2) in
    let none = (s.alone v b.0 (rest ++ b.1 ∷ b.2) whole).1 in
    omega (arith, ap length none, length-append rest (b.1 ∷ b.2))

pub one_spelling : {V : Type 0} (lines : V → List Line) → IsSpelling lines → HasOneSpelling lines
one_spelling lines s v w e =
    let f : text_of (lines v) ++ [] ≡ text_of (lines w) ++ [] = ap (λ t. t ++ []) e in
    elim (cases_lt (length (lines w)) (length (lines v))) [
      | inl shorter ↦ let more = same_lines (lines w) (lines v) [] [] (s.no_ends w) (s.no_ends v) (sym f) (omega arith) in sym (s.alone w v more.0 more.1).0
      | inr longer ↦ let more = same_lines (lines v) (lines w) [] [] (s.no_ends v) (s.no_ends w) f longer in (s.alone v w more.0 more.1).0
    ]

pub prefix_free : {V : Type 0} (lines : V → List Line) → IsSpelling lines → IsPrefixFree lines
prefix_free lines s v w byte rest e =
    let f : text_of (lines w) ++ [] ≡ text_of (lines v) ++ byte ∷ rest = append-nil (text_of (lines w)) ∙ e in
    elim (cases_lt (length (lines w)) (length (lines v))) [
      | inl shorter ↦ let more = same_lines (lines w) (lines v) [] (byte ∷ rest) (s.no_ends w) (s.no_ends v) f (omega arith) in
          absurd (omega (arith, ap length more.2, length-append (text_of more.0) (byte ∷ rest)))
      | inr longer ↦
          let more = same_lines (lines v) (lines w) (byte ∷ rest) [] (s.no_ends v) (s.no_ends w) (sym f) longer in
          let none = (s.alone v w more.0 more.1).1 in
          absurd (omega (arith, ap length more.2, ap length (ap (λ ls. text_of ls ++ []) none)))
    ]
