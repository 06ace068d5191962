-- What the readers of one line cite: why a line is refused.
use Rattle.std.proofs.Common.{
  ◌≡◌,
  ℕ,
  ◌<◌,
  ◌≤◌,
  All,
  [],
  ◌∷◌,
  ◌++◌,
  drop,
  slice_index,
  refl,
  ◌∙◌,
  ap,
  sym,
  subst,
  arith,
  Bool,
  cond,
  ◌==◌,
  List,
  length,
  inl,
  inr,
}
use Rattle.std.specs.Prelude.{Err}
use Rattle.std.proofs.lemmas.List.{append-nil, append_cancel_left}
use Rattle.std.proofs.lemmas.Bool.{cases_Bool, eqb-true, eqb-false}
use Rattle.bp_text.specs.declared.found.Bounds.{Bounds}
use Rattle.bp_text.specs.declared.text_error.TextError.{TextError}
use Rattle.bp_text.specs.declared.text_error.TextError.TheVariants.{BadLine, Limit}
use Rattle.bp_text.specs.Lines.{Line, Given, GivesLine, line_of}
use Rattle.bp_text.specs.Forms.{AreWithin, IsLine, IsBadLine, IsBeyond, IsNumberBehind}
use Rattle.bp_text.specs.declared.found.Number.{Number}
use Rattle.bp_text.specs.declared.found.Number.TheVariants.{Bad, Great, Value}
use Rattle.bp_text.specs.Numbers.{spelled, IsReadAs}
use Rattle.bp_text.proofs.LineLemmas.{line_injective}

-- the line has numbers, and another count of them
pub wrong_count : (word : List ℕ) (count : ℕ) (old new : Given) (line : Line) (ms : List ℕ) (place : ℕ) → GivesLine old new line → place ≡ new.given →
    line ≡ line_of word ms → (length ms ≡ count → ⊥) → IsBadLine word (λ ns. length ns ≡ count) old new place
wrong_count word count old new line ms place gives counted is other = record {
  line = line;
  gives = gives;
  wrong = λ ns each e. other (ap length (line_injective word ms ns (sym is ∙ e)) ∙ each);
  counted = counted;
}

-- numbers that are not within the bounds: too great where their count is right
pub great_is_refused : (word : List ℕ) (bounds : Bounds) (old new : Given) (line : Line) (ms : List ℕ) (count place : ℕ) (e : TextError) →
    GivesLine old new line → place ≡ new.given →
    line ≡ line_of word ms → length ms ≡ count → (AreWithin bounds ms → ⊥) → e ≡ cond (count == bounds.most) (Limit place) (BadLine place) →
    IsLine word (λ ns. length ns ≡ bounds.most) (AreWithin bounds) old new (Err e)
great_is_refused word bounds old new line ms count place e gives counted is long beyond says =
    let P : TextError → Type 0 = λ x. IsLine word (λ ns. length ns ≡ bounds.most) (AreWithin bounds) old new (Err x) in
    let Q : Bool → Type 0 = λ b. P (cond b (Limit place) (BadLine place)) in
    elim (cases_Bool (count == bounds.most)) [
      | inl yes_count ↦
          let gives_numbers : GivesLine old new (line_of word ms) = let R : Line → Type 0 = λ l. GivesLine old new l in subst R is gives in
          subst P (sym says) (subst Q (sym yes_count) (record {
            numbers = ms;
            form = long ∙ eqb-true count bounds.most yes_count;
            outside = beyond;
            gives =
                gives_numbers;
            counted = counted;
          }))
      | inr no_count ↦
          subst P (sym says) (subst Q (sym no_count)
          (wrong_count word bounds.most old new line ms place gives counted is (λ each. eqb-false count bounds.most no_count (sym long ∙ each))))
    ]

-- one number behind a word
pub one_number-line : (word : List ℕ) (n : ℕ) → line_of word (n ∷ []) ≡ word ++ 32 ∷ spelled n
one_number-line word n = ap (λ xs. word ++ xs) (append-nil (32 ∷ spelled n))

behind_space : (text : List ℕ) → 0 < length text → slice_index text 0 ≡ 32 → text ≡ 32 ∷ drop 1 text
behind_space [] some first = absurd (omega arith)
behind_space (b ∷ bs) some first = ap (λ x. x ∷ bs) first

pub number_behind : (word line text : List ℕ) (greatest : ℕ) (r : Number) → line ≡ word ++ text → 0 < length text → slice_index text 0 ≡ 32 →
    IsReadAs (drop 1 text) greatest r → IsNumberBehind word line greatest r
number_behind word line text greatest Bad is some first read = λ n e.
    let tails : text ≡ 32 ∷ spelled n = append_cancel_left word text (32 ∷ spelled n) (sym is ∙ e ∙ one_number-line word n) in
    let digits : drop 1 text ≡ spelled n = ap (drop 1) tails in
    read n digits
number_behind word line text greatest Great is some first read =
    (read.0, read.1, is ∙ ap (λ xs. word ++ xs) (behind_space text some first ∙ ap (λ xs. 32 ∷ xs) read.2) ∙ sym (one_number-line word read.0))
number_behind word line text greatest (Value n) is some first read =
    (read.0, is ∙ ap (λ xs. word ++ xs) (behind_space text some first ∙ ap (λ xs. 32 ∷ xs) read.1) ∙ sym (one_number-line word n))

-- no space behind the word
pub no_space_behind : (word line text : List ℕ) → line ≡ word ++ text → (0 < length text → slice_index text 0 ≡ 32 → ⊥) → (n : ℕ) →
    line ≡ line_of word (n ∷ []) → ⊥
no_space_behind word line text is none n e =
    let tails : text ≡ 32 ∷ spelled n = append_cancel_left word text (32 ∷ spelled n) (sym is ∙ e ∙ one_number-line word n) in
    none (omega (arith, ap length tails)) (ap (λ xs. slice_index xs 0) tails)

pub only_number : (ns : List ℕ) → length ns ≡ 1 → (n : ℕ) × (ns ≡ n ∷ [])
only_number [] e = absurd (omega (arith, e))
only_number (n ∷ []) e = (n, refl)
only_number (n ∷ m ∷ ns) e = absurd (omega (arith, e))

pub no_one_number : (word : List ℕ) (old new : Given) (line : Line) (place : ℕ) → GivesLine old new line → place ≡ new.given →
    ((n : ℕ) → line ≡ line_of word (n ∷ []) → ⊥) → IsBadLine word (λ ns. length ns ≡ 1) old new place
no_one_number word old new line place gives counted bad = record {
  line = line;
  gives = gives;
  wrong = λ ns each e. let one = only_number ns each in bad one.0 (e ∙ ap (line_of word) one.1);
  counted = counted;
}

pub great_number : (word : List ℕ) (greatest : ℕ) (old new : Given) (line : Line) (place n : ℕ) → GivesLine old new line → place ≡ new.given → greatest < n →
    line ≡ line_of word (n ∷ []) →
    IsBeyond word (λ ns. length ns ≡ 1) (λ ns. All (λ n. n ≤ greatest) ns) old new place
great_number word greatest old new line place n gives counted great is = record {
  numbers = n ∷ [];
  form = refl;
  outside = λ all. omega (arith, all 0 0 (omega arith), great);
  gives = (let R : Line → Type 0 = λ l. GivesLine old new l in subst R is gives);
  counted = counted;
}

pub word_alone : (word : List ℕ) → line_of word [] ≡ word
word_alone word = append-nil word

pub no_numbers : (ns : List ℕ) → length ns ≡ 0 → ns ≡ []
no_numbers [] e = refl
no_numbers (n ∷ ns) e = absurd (omega (arith, e))

-- a line that is another than the word
pub other_word : (word : List ℕ) (old new : Given) (line : Line) (place : ℕ) → GivesLine old new line → place ≡ new.given → (line ≡ word → ⊥) →
    IsBadLine word (λ ns. length ns ≡ 0) old new place
other_word word old new line place gives counted other = record {
  line = line;
  gives = gives;
  wrong = λ ns none e. other (e ∙ ap (line_of word) (no_numbers ns none) ∙ word_alone word);
  counted = counted;
}

-- a number below the least
pub small_number : (word : List ℕ) (least greatest : ℕ) (old new : Given) (place n : ℕ) → GivesLine old new (line_of word (n ∷ [])) → place ≡ new.given →
    n < least →
    IsBeyond word (λ ns. length ns ≡ 1) (λ ns. All (λ n. (least ≤ n) × (n ≤ greatest)) ns) old new place
small_number word least greatest old new place n gives counted small = record {
  numbers = n ∷ [];
  form = refl;
  outside = λ all. omega (arith, (all 0 0 (omega arith)).0, small);
  gives = gives;
  counted = counted;
}
