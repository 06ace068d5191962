-- No line of a text has an end in it.
use Rattle.std.proofs.Common.{◌≡◌, ℕ, zero, suc, ap, subst, arith, true, false, List, [], ◌∷◌, ◌++◌, All, get_or, ◌==◌}
use Rattle.std.specs.Prelude.{not}
use Rattle.std.specs.List.{list_all}
use Rattle.std.proofs.lemmas.List.Sums.{AllPass-from_list_all}
use Rattle.bp_text.specs.Lines.{Line, HasNoEnd, line_of}
use Rattle.bp_text.specs.Reading.{Begins}
use Rattle.bp_text.proofs.LineLemmas.{no_end_in_line}

pub all_head : (x : Line) (xs : List Line) → All HasNoEnd (x ∷ xs) → HasNoEnd x
all_head x xs all = all 0 [] (omega arith)

pub all_tail : (x : Line) (xs : List Line) → All HasNoEnd (x ∷ xs) → All HasNoEnd xs
all_tail x xs all k d h = all (suc k) d (omega arith)

pub one_line : (line : Line) → HasNoEnd line → All HasNoEnd (line ∷ [])
one_line line none zero d h = none
one_line line none (suc k) d h = absurd (omega arith)

-- one line more in front
pub line_in_front : (line : Line) (lines : List Line) → HasNoEnd line → All HasNoEnd lines → All HasNoEnd (line ∷ lines)
line_in_front line lines first others zero d h = first
line_in_front line lines first others (suc k) d h = others k d (omega arith)

all_front : (xs ys : List Line) → All HasNoEnd (xs ++ ys) → All HasNoEnd xs
all_front [] ys all = λ k d h. absurd (omega arith)
all_front (x ∷ xs) ys all = line_in_front x xs (all_head x (xs ++ ys) all) (all_front xs ys (all_tail x (xs ++ ys) all))

-- the lines that begin a text have no ends in them, where those of every value have none
pub no_end_in_front : {V : Type 0} (lines : V → List Line) (Within : V → Type 0) (front : List Line) → ((v : V) → All HasNoEnd (lines v)) →
    Begins lines Within front → All HasNoEnd front
no_end_in_front lines Within front no_ends b =
    let P : List Line → Type 0 = λ ls. All HasNoEnd ls in
    all_front front (b.1 ∷ b.2) (subst P b.4 (no_ends b.0))

-- no byte of a short word is a line's end
pub word_has_no_end : (word : List ℕ) → list_all (λ b. not (b == 10)) word ≡ true → HasNoEnd word
word_has_no_end word pass k d h e =
    let at : not (get_or word k d == 10) ≡ true = AllPass-from_list_all (λ b. not (b == 10)) word pass k d h in
    let other : not (get_or word k d == 10) ≡ false = ap (λ b. not (b == 10)) e in
    absurd (cc)

-- nor of a line of a short word and numbers
pub no_end_in_spelled : (word numbers : List ℕ) → list_all (λ b. not (b == 10)) word ≡ true → HasNoEnd (line_of word numbers)
no_end_in_spelled word numbers pass = no_end_in_line word numbers (word_has_no_end word pass)
