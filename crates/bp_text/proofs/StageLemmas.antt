-- From one line of a text to the whole: what a line's refusal says of the text that it stands in.
use Rattle.std.proofs.Common.{◌≡◌, ℕ, refl, ap, sym, subst, ◌∙◌, arith, List, [], ◌∷◌, ◌++◌, All, append_assoc, length-append}
use Rattle.std.specs.Prelude.{Err}
use Rattle.std.proofs.lemmas.List.{append-nil}
use Rattle.std.proofs.lemmas.List.Elements.{All-append}
use Rattle.std.proofs.lemmas.Grind.{flat_map-append}
use Rattle.bp_text.specs.declared.text_error.TextError.{TextError}
use Rattle.bp_text.specs.declared.text_error.TextError.TheVariants.{BadLine, Limit, TooShort, Trailing, Memory}
use Rattle.bp_text.specs.Lines.{Line, HasNoEnd, Given, GivesLine, line_of, text_of}
use Rattle.bp_text.specs.Forms.{IsLine}
use Rattle.bp_text.specs.Places.{IsPlace, IsRefusedLine}
use Rattle.bp_text.specs.Reading.{Begins, HasForm, GivesLines, IsReading, EndsShort}
use Rattle.bp_text.proofs.EndLemmas.{one_line, no_end_in_front}

pub text_of-append : (xs ys : List Line) → text_of (xs ++ ys) ≡ text_of xs ++ text_of ys
text_of-append xs ys = flat_map-append (λ line. line ++ 10 ∷ []) xs ys

pub text_of-one : (line : Line) (rest : List ℕ) → text_of (line ∷ []) ++ rest ≡ line ++ 10 ∷ rest
text_of-one line rest = ap (λ xs. xs ++ rest) (append-nil (line ++ 10 ∷ [])) ∙ append_assoc line (10 ∷ []) rest

-- nothing was given yet
pub no_lines : (old : Given) → GivesLines old old [] old.rest
no_lines old = record { bytes = refl; given = omega arith; splits = refl }

-- lines, and then one more
pub one_more_line : (old mid new : Given) (front : List Line) (line : Line) → GivesLines old mid front mid.rest → GivesLine mid new line →
    GivesLines old new (front ++ line ∷ []) new.rest
one_more_line old mid new front line before gives = record {
  bytes = gives.bytes ∙ before.bytes;
  given = omega (arith, gives.given, before.given, length-append front (line ∷ []));
  splits = before.splits ∙ ap (λ xs. text_of front ++ xs) (gives.rest ∙ sym (text_of-one line new.rest)) ∙
      sym (append_assoc (text_of front) (text_of (line ∷ [])) new.rest) ∙ ap (λ xs. xs ++ new.rest) (sym (text_of-append front (line ∷ [])));
}

-- lines, and then more of them
pub more_lines : (old mid new : Given) (front lines : List Line) → GivesLines old mid front mid.rest → GivesLines mid new lines new.rest →
    GivesLines old new (front ++ lines) new.rest
more_lines old mid new front lines before gives = record {
  bytes = gives.bytes ∙ before.bytes;
  given = omega (arith, gives.given, before.given, length-append front lines);
  splits = before.splits ∙ ap (λ xs. text_of front ++ xs) gives.splits ∙ sym (append_assoc (text_of front) (text_of lines) new.rest) ∙
      ap (λ xs. xs ++ new.rest) (sym (text_of-append front lines));
}

-- a refusal of the line at a place is one of the text
pub refused_here : {V : Type 0} (lines : V → List Line) (Within : V → Type 0) (front : List Line) (Form Fine : Line →
    Type 0) (old mid new : Given) (e : TextError) →
    IsPlace lines Within front Form Fine → GivesLines old mid front mid.rest → IsRefusedLine Form Fine mid new e → IsReading lines Within old new (Err e)
refused_here lines Within front Form Fine old mid new (BadLine place) stage before bad = record {
  front = front;
  line = bad.0;
  begins = stage.begins;
  wrong = λ has. bad.2 (stage.form has.0 bad.0 has.1 has.2);
  no_end = bad.1.no_end;
  gives = one_more_line old mid new front bad.0 before bad.1;
  counted = bad.3;
}
refused_here lines Within front Form Fine old mid new (Limit place) stage before beyond = record {
  front = front;
  line = beyond.0;
  begins = stage.begins;
  form = stage.some beyond.0 beyond.2;
  outside = λ right. beyond.3 (stage.fine right.0 beyond.0 right.1 right.2 right.3);
  no_end = beyond.1.no_end;
  gives = one_more_line old mid new front beyond.0 before beyond.1;
  counted = beyond.4;
}
refused_here lines Within front Form Fine old mid new TooShort stage before short =
    let P : Given → Type 0 = λ g. EndsShort lines Within old g in
    subst P (sym short.0) (record { front = front; begins = stage.begins; gives = before; no_end = short.1 })
refused_here lines Within front Form Fine old mid new (Trailing place) stage before never = never
refused_here lines Within front Form Fine old mid new Memory stage before stopped =
    let none = no_end_in_front lines Within front stage.no_ends stage.begins in (
      front ++ stopped.0 ∷ [],
      All-append HasNoEnd front (stopped.0 ∷ []) none (one_line stopped.0 stopped.1.no_end),
      one_more_line old mid new front stopped.0 before stopped.1,
    )

-- behind these lines a text goes on with a word and numbers in a form, and within the limits they are fine
pub record IsStage {V : Type 0} (lines : V → List Line) (Within : V → Type 0) (front : List Line) (word : List ℕ) (Form Fine : List ℕ → Type 0) : Type 0 where
  pub no_ends : (v : V) → All HasNoEnd (lines v)
  pub begins : Begins lines Within front
  pub form : (v : V) (line : Line) (more : List Line) → lines v ≡ front ++ line ∷ more → (ns : List ℕ) × Form ns × (line ≡ line_of word ns)
  pub some : (ns : List ℕ) → Form ns → HasForm lines front (line_of word ns)
  pub fine : (v : V) (ns : List ℕ) (more : List Line) → Within v → Form ns → lines v ≡ front ++ line_of word ns ∷ more → Fine ns

-- so where memory was wanted behind the line, the lines so far were given
pub stopped_at : {V : Type 0} (lines : V → List Line) (Within : V → Type 0) (front : List Line) (word : List ℕ) (Form Fine : List ℕ →
    Type 0) (old mid new : Given) (line : Line) →
    IsStage lines Within front word Form Fine → GivesLines old mid front mid.rest → GivesLine mid new line → IsReading lines Within old new (Err Memory)
stopped_at lines Within front word Form Fine old mid new line stage before gives =
    let none = no_end_in_front lines Within front stage.no_ends stage.begins in
    (front ++ line ∷ [], All-append HasNoEnd front (line ∷ []) none (one_line line gives.no_end), one_more_line old mid new front line before gives)

-- so a refusal of the line is one of the text
pub refused_at : {V : Type 0} (lines : V → List Line) (Within : V → Type 0) (front : List Line) (word : List ℕ) (Form Fine : List ℕ →
    Type 0) (old mid new : Given) (e : TextError) →
    IsStage lines Within front word Form Fine → GivesLines old mid front mid.rest → IsLine word Form Fine mid new (Err e) →
    IsReading lines Within old new (Err e)
refused_at lines Within front word Form Fine old mid new (BadLine place) stage before bad = record {
  front = front;
  line = bad.line;
  begins = stage.begins;
  wrong = λ has. let seen = stage.form has.0 bad.line has.1 has.2 in bad.wrong seen.0 seen.1 seen.2;
  no_end = bad.gives.no_end;
  gives = one_more_line old mid new front bad.line before bad.gives;
  counted = bad.counted;
}
refused_at lines Within front word Form Fine old mid new (Limit place) stage before beyond = record {
  front = front;
  line = line_of word beyond.numbers;
  begins = stage.begins;
  form = stage.some beyond.numbers beyond.form;
  outside = λ right. beyond.outside (stage.fine right.0 beyond.numbers right.1 right.2 beyond.form right.3);
  no_end = beyond.gives.no_end;
  gives = one_more_line old mid new front (line_of word beyond.numbers) before beyond.gives;
  counted = beyond.counted;
}
refused_at lines Within front word Form Fine old mid new TooShort stage before short =
    let P : Given → Type 0 = λ g. EndsShort lines Within old g in
    subst P (sym short.0) (record { front = front; begins = stage.begins; gives = before; no_end = short.1 })
refused_at lines Within front word Form Fine old mid new (Trailing place) stage before never = never
refused_at lines Within front word Form Fine old mid new Memory stage before stopped =
    stopped_at lines Within front word Form Fine old mid new stopped.0 stage before stopped.1
