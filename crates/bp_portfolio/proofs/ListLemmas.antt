-- What the reader of a list cites: the rows that it has read, and what a refusal behind them says of the whole.
use Rattle.std.proofs.Common.{
  ◌≡◌,
  ℕ,
  zero,
  suc,
  ◌+◌,
  ◌-◌,
  refl,
  ap,
  sym,
  subst,
  ◌∙◌,
  arith,
  Bool,
  true,
  List,
  [],
  ◌∷◌,
  ◌++◌,
  length,
  map,
  append_assoc,
  length-append,
}
use Rattle.std.specs.Prelude.{◌≢◌, codes, IsTrue, Result, Ok, Err}
use Rattle.std.specs.List.{list_all}
use Rattle.std.proofs.Math.ListN.{length-map}
use Rattle.std.proofs.lemmas.Bool.{and_from}
use Rattle.std.proofs.lemmas.List.{map-append}
use Rattle.std.proofs.lemmas.List.Folds.{list_all-append}
use Rattle.bp_text.specs.declared.text_error.TextError.{TextError}
use Rattle.bp_text.specs.declared.text_error.TextError.TheVariants.{BadLine, Limit, TooShort, Trailing, Memory}
use Rattle.bp_text.specs.Lines.{Line, Given, GivesLine, line_of}
use Rattle.bp_text.specs.Forms.{IsLine}
use Rattle.bp_text.specs.Places.{IsRefusedLine}
use Rattle.bp_text.specs.Reading.{GivesLines, IsReading, IsText, seen_as}
use Rattle.bp_text.proofs.NextLemmas.{word_alone}
use Rattle.bp_text.proofs.StageLemmas.{one_more_line}
use Rattle.bp_text.proofs.SpellingLemmas.{IsSpelling}
use Rattle.bp_text.proofs.OneWayLemmas.{one_way}
use Rattle.bp_text.proofs.KindLemmas.{HasRead, is_spelling, read_nothing, read_more, read_refused}
use Rattle.bp_portfolio.specs.Lists.{
  FiveNames,
  Listed,
  IsListText,
  is_named,
  names_line,
  head_lines,
  hotel_lines,
  list_lines,
  IsManyHotels,
  IsPortfolio,
  IsNamesLine,
  AreNamesRead,
}
use Rattle.bp_portfolio.specs.Laws.{OneReading}
use Rattle.bp_portfolio.proofs.ListRows.{
  Row,
  Numbers,
  Files,
  Rows,
  lines_left,
  line_at,
  row_line,
  HasCount,
  tail_form,
  Form,
  Fine,
  plain,
  head_rows,
  rows_of,
  list_of,
  few,
  hotels_spelt,
  hotels_formed,
  tail_is_fine,
  list_kind,
}

pub lists_are_spelled : IsSpelling list_lines
lists_are_spelled = is_spelling list_lines IsPortfolio line_at Form Fine lines_left plain rows_of list_of list_kind

-- the reader has read the lines of these rows
abbrev pub HasReadList : Given → Given → Rows → Type 0
HasReadList old mid rows = HasRead list_lines IsPortfolio line_at Form Fine lines_left plain rows_of list_of list_kind old mid rows

pub list_nothing : (old : Given) → HasReadList old old []
list_nothing old = read_nothing list_lines IsPortfolio line_at Form Fine lines_left plain rows_of list_of list_kind old

pub list_more : (old mid new : Given) (rows : Rows) (r : Row) → HasReadList old mid rows → Form rows r → Fine rows r → GivesLine mid new (line_at rows r) →
    HasReadList old new (rows ++ r ∷ [])
list_more old mid new rows r so_far form fine gives =
    read_more list_lines IsPortfolio line_at Form Fine lines_left plain rows_of list_of list_kind old mid new rows r so_far form fine gives

pub list_refused : (old mid new : Given) (rows : Rows) (n : ℕ) (e : TextError) → HasReadList old mid rows → lines_left rows ≡ suc n
    → IsRefusedLine (λ line. (r : Row) × Form rows r × (line ≡ line_at rows r)) (λ line. (r : Row) → Form rows r → line ≡ line_at rows r →
    Fine rows r) mid new e
    → IsReading list_lines IsPortfolio old new (Err e)
list_refused old mid new rows n e so_far some refused =
    read_refused list_lines IsPortfolio line_at Form Fine lines_left plain rows_of list_of list_kind old mid new rows n e so_far some refused

-- a line of numbers that its reader refused, as a row
pub numbers_refused : (word : List ℕ) (k : ℕ) (F : List ℕ → Type 0) (G : Row → Type 0) (old new : Given) (e : TextError) →
    ((ns : List ℕ) → G (Numbers ns) → F ns)
    → IsLine word (λ ns. length ns ≡ k) F old new (Err e)
    → IsRefusedLine (λ line. (r : Row) × HasCount k r × (line ≡ row_line word r)) (λ line. (r : Row) → HasCount k r → line ≡ row_line word r → G r) old new e
numbers_refused word k F G old new (BadLine place) so bad = (bad.line, bad.gives, λ has. other has.0 has.1 has.2, bad.counted)
  where
    other : (r : Row) → HasCount k r → bad.line ≡ row_line word r → ⊥
    other (Numbers ns) form is = bad.wrong ns form is
    other (Files n) form is = form
numbers_refused word k F G old new (Limit place) so beyond = (
  line_of word beyond.numbers,
  beyond.gives,
  (Numbers beyond.numbers, beyond.form, refl),
  λ fine. beyond.outside (so beyond.numbers (fine (Numbers beyond.numbers) beyond.form refl)),
  beyond.counted,
)
numbers_refused word k F G old new TooShort so short = short
numbers_refused word k F G old new (Trailing place) so never = never
numbers_refused word k F G old new Memory so stopped = stopped

-- a line of names
names_refused : (word : List ℕ) (n : ℕ) (old new : Given) (e : TextError) → IsRefusedLine IsNamesLine (λ line. Unit {0}) old new e
    → IsRefusedLine (λ line. (r : Row) × tail_form (suc (suc n)) r × (line ≡ row_line word r)) (λ line. (r : Row) → tail_form (suc (suc n)) r →
    line ≡ row_line word r → Unit {0}) old new e
names_refused word n old new (BadLine place) bad = (bad.0, bad.1, λ has. other has.0 has.1 has.2, bad.3)
  where
    other : (r : Row) → tail_form (suc (suc n)) r → bad.0 ≡ row_line word r → ⊥
    other (Numbers ns) form is = form
    other (Files m) form is = bad.2 (m, form, is)
names_refused word n old new (Limit place) beyond = absurd (beyond.3 tt)
names_refused word n old new TooShort short = short
names_refused word n old new (Trailing place) never = never
names_refused word n old new Memory stopped = stopped

-- the head, and then hotels, with more to come
pub hotels_read : (k more : ℕ) (hotels : List FiveNames) (old mid : Given) → IsManyHotels k → list_all is_named hotels ≡ true → length hotels + more ≡ k
    → GivesLines old mid (head_lines k ++ map names_line hotels) mid.rest → HasReadList old mid (head_rows k ++ map Files hotels)
hotels_read k more hotels old mid many are counted gives =
    let first : Row = Numbers [] in
    let second : Row = Numbers (k ∷ []) in
    let P : List Line → Type 0 = λ ls. GivesLines old mid ls mid.rest in
    record {
      formed = (refl, (refl, hotels_formed first second more [] hotels (omega (arith, counted)) are));
      fine = (tt, (few k many, tail_is_fine first second [] (map Files hotels)));
      gives = subst P (ap (λ ls. head_lines k ++ ls) (sym (hotels_spelt first second [] hotels))) gives;
    }

-- a line behind some of the hotels was refused: the next hotel's, or the last one
tail_refused : (k n : ℕ) (hotels : List FiveNames) (old mid new : Given) (e : TextError) → HasReadList old mid (head_rows k ++ map Files hotels) →
    length hotels + n ≡ k
    → IsRefusedLine (λ line. (r : Row) × tail_form (suc n) r × (line ≡ row_line (codes "end") r)) (λ line. (r : Row) → tail_form (suc n) r →
    line ≡ row_line (codes "end") r → Unit {0}) mid new e
    → IsReading list_lines IsPortfolio old new (Err e)
tail_refused k n hotels old mid new e so_far counted refused =
    let left : (k + 1) - length (map Files hotels) ≡ suc n = omega (arith, counted, length-map hotels Files) in
    let P : ℕ → Type 0 = λ m. IsRefusedLine (λ line. (r : Row) × tail_form m r × (line ≡ row_line (codes "end") r)) (λ line. (r : Row) → tail_form m r →
    line ≡ row_line (codes "end") r → Unit {0}) mid new e in
    list_refused old mid new (head_rows k ++ map Files hotels) n e so_far left (subst P (sym left) refused)

pub hotel_refused : (k n : ℕ) (hotels : List FiveNames) (old mid new : Given) (e : TextError) → HasReadList old mid (head_rows k ++ map Files hotels) →
    length hotels + suc n ≡ k
    → AreNamesRead mid new (Err e) → IsReading list_lines IsPortfolio old new (Err e)
hotel_refused k n hotels old mid new e so_far counted refused =
    tail_refused k (suc n) hotels old mid new e so_far counted (names_refused (codes "end") n mid new e refused)

-- memory was wanted behind a hotel's line
pub hotel_stopped : (k n : ℕ) (hotels : List FiveNames) (old mid new : Given) (line : Line) → HasReadList old mid (head_rows k ++ map Files hotels) →
    length hotels + suc n ≡ k
    → GivesLine mid new line → IsReading list_lines IsPortfolio old new (Err Memory)
hotel_stopped k n hotels old mid new line so_far counted gives = tail_refused k (suc n) hotels old mid new Memory so_far counted (line, gives)

pub end_refused : (hotels : List FiveNames) (old mid new : Given) (e : TextError) → HasReadList old mid (head_rows (length hotels) ++ map Files hotels)
    → IsLine (codes "end") (λ ns. length ns ≡ 0) (λ _. Unit {0}) mid new (Err e) → IsReading list_lines IsPortfolio old new (Err e)
end_refused hotels old mid new e so_far line =
    tail_refused (length hotels) 0 hotels old mid new e so_far (omega arith)
    (numbers_refused (codes "end") 0 (λ _. Unit {0}) (λ _. Unit {0}) mid new e (λ ns fine. tt) line)

-- the last line behind the others
pub whole_list : (hotels : List FiveNames) (old mid new : Given) → GivesLines old mid (head_lines (length hotels) ++ map names_line hotels) mid.rest →
    GivesLine mid new (line_of (codes "end") [])
    → GivesLines old new (head_lines (length hotels) ++ hotel_lines hotels) new.rest
whole_list hotels old mid new before gives =
    let same : head_lines (length hotels) ++ hotel_lines hotels ≡ (head_lines (length hotels) ++ map names_line hotels) ++ codes "end" ∷ [] =
    sym (append_assoc (head_lines (length hotels)) (map names_line hotels) (codes "end" ∷ [])) in
    let P : List Line → Type 0 = λ ls. GivesLines old new ls new.rest in
    let Q : Line → Type 0 = λ l. GivesLine mid new l in
    subst P (sym same) (one_more_line old mid new (head_lines (length hotels) ++ map names_line hotels) (codes "end") before
    (subst Q (word_alone (codes "end")) gives))

-- one hotel behind those so far
pub one_hotel_more : (old mid new : Given) (done after : List FiveNames) (n : FiveNames) → after ≡ done ++ n ∷ [] → list_all is_named done ≡ true →
    is_named n ≡ true
    → GivesLines old mid (map names_line done) mid.rest → GivesLine mid new (names_line n) →
    IsTrue (list_all is_named after) × GivesLines old new (map names_line after) new.rest
one_hotel_more old mid new done after n e are is so_far gives =
    let P : List FiveNames → Type 0 = λ hs. IsTrue (list_all is_named hs) × GivesLines old new (map names_line hs) new.rest in
    let lines : map names_line (done ++ n ∷ []) ≡ map names_line done ++ names_line n ∷ [] = map-append names_line done (n ∷ []) in
    let Q : List Line → Type 0 = λ ls. GivesLines old new ls new.rest in
    let all : list_all is_named (done ++ n ∷ []) ≡ true = list_all-append is_named done (n ∷ []) ∙
    and_from (list_all is_named done) (list_all is_named (n ∷ [])) are (and_from (is_named n) true is refl) in
    subst P (sym e) (all, subst Q (sym lines) (one_more_line old mid new (map names_line done) (names_line n) so_far gives))

-- bytes are read as a list in one way

seen_back : (a : Result (List FiveNames) TextError) → a ≢ Err Memory → (bytes : List ℕ) → IsListText bytes a
    → (b : Result Listed TextError) × (b ≢ Err Memory) × IsText list_lines IsPortfolio bytes b × (a ≡ seen_as (λ v. v.0) b)
seen_back (Ok hotels) other bytes (v, is, text) = (Ok v, λ e. cc, text, ap Ok (sym is))
seen_back (Err e) other bytes text = (Err e, λ same. other (cc), text, refl)

pub one_reading : OneReading
one_reading bytes a b not_a not_b is also =
    let x = seen_back a not_a bytes is in
    let y = seen_back b not_b bytes also in
    let same : x.0 ≡ y.0 = one_way list_lines IsPortfolio lists_are_spelled bytes x.0 y.0 x.1 y.1 x.2 y.2 in
    x.3 ∙ ap (seen_as (λ (v : Listed). v.0)) same ∙ sym y.3
