-- A kind of text whose reading goes row by row. Which rows may stand behind others, how each is spelt, and that the rows
-- of a value are those of no other (`IsKind`) is all that a kind has to say. From it follow `is_spelling`, for the laws,
-- and for its reader `read_more` behind a line that is right, `read_refused` at one that is not, and `read_whole` at the end.
use Rattle.std.proofs.Common.{◌≡◌, ℕ, zero, suc, refl, ap, sym, subst, ◌∙◌, arith, List, [], ◌∷◌, ◌++◌, All, append_assoc}
use Rattle.std.specs.Prelude.{Err}
use Rattle.std.proofs.lemmas.List.{append-nil}
use Rattle.bp_text.specs.declared.text_error.TextError.{TextError}
use Rattle.bp_text.specs.declared.text_error.TextError.TheVariants.{BadLine, Limit, TooShort, Trailing, Memory}
use Rattle.bp_text.specs.Lines.{Line, HasNoEnd, Given, GivesLine, line_of}
use Rattle.bp_text.specs.Forms.{IsLine}
use Rattle.bp_text.specs.Reading.{GivesLines, IsReading, Spells}
use Rattle.bp_text.specs.Places.{IsPlace, IsRefusedLine}
use Rattle.bp_text.specs.Kinds.{EachRow, row_lines}
use Rattle.bp_text.proofs.EndLemmas.{line_in_front}
use Rattle.bp_text.proofs.SpellingLemmas.{IsSpelling}
use Rattle.bp_text.proofs.StageLemmas.{no_lines, one_more_line, refused_here}

-- rows in two parts

pub EachRow-append : {R : Type 0} (P : List R → R → Type 0) (front xs ys : List R) → EachRow P front xs → EachRow P (front ++ xs) ys →
    EachRow P front (xs ++ ys)
EachRow-append P front [] ys first second = let Q : List _ → Type 0 = λ f. EachRow P f ys in subst Q (append-nil front) second
EachRow-append P front (x ∷ xs) ys first second =
    let Q : List _ → Type 0 = λ f. EachRow P f ys in
    (first.0, EachRow-append P (front ++ x ∷ []) xs ys first.1 (subst Q (sym (append_assoc front (x ∷ []) xs)) second))

pub EachRow-back : {R : Type 0} (P : List R → R → Type 0) (front xs ys : List R) → EachRow P front (xs ++ ys) → EachRow P (front ++ xs) ys
EachRow-back P front [] ys all = let Q : List _ → Type 0 = λ f. EachRow P f ys in subst Q (sym (append-nil front)) all
EachRow-back P front (x ∷ xs) ys all =
    let Q : List _ → Type 0 = λ f. EachRow P f ys in
    subst Q (append_assoc front (x ∷ []) xs) (EachRow-back P (front ++ x ∷ []) xs ys all.1)

pub row_lines-append : {R : Type 0} (line_at : List R → R → Line) (front xs ys : List R) →
    row_lines line_at front (xs ++ ys) ≡ row_lines line_at front xs ++ row_lines line_at (front ++ xs) ys
row_lines-append line_at front [] ys = ap (λ f. row_lines line_at f ys) (sym (append-nil front))
row_lines-append line_at front (x ∷ xs) ys =
    ap (λ ls. line_at front x ∷ ls) (row_lines-append line_at (front ++ x ∷ []) xs ys
    ∙ ap (λ f. row_lines line_at (front ++ x ∷ []) xs ++ row_lines line_at f ys) (append_assoc front (x ∷ []) xs))

-- a kind of text: how rows are spelt, which may stand behind others (none where none is left), and that values are rows
pub record IsKind {V R : Type 0} (lines : V → List Line) (Within : V → Type 0) (line_at : List R → R → Line) (Form Fine : List R → R → Type 0)
    (left : List R → ℕ) (plain : List R → R) (rows_of : V → List R) (value_of : List R → V) : Type 0 where
  pub no_end : (front : List R) (r : R) → Form front r → HasNoEnd (line_at front r)
  pub told : (front : List R) (r t : R) → Form front r → Form front t → line_at front r ≡ line_at front t → r ≡ t
  pub ends : (front : List R) (r : R) → left front ≡ 0 → Form front r → ⊥
  pub goes_on : (front : List R) (n : ℕ) → EachRow Form [] front → left front ≡ suc n → Form front (plain front) × (left (front ++ plain front ∷ []) ≡ n)
  pub plain_fine : (front : List R) (n : ℕ) → EachRow Form [] front → EachRow Fine [] front → left front ≡ suc n → Fine front (plain front)
  pub spelt : (v : V) → lines v ≡ row_lines line_at [] (rows_of v)
  pub formed : (v : V) → EachRow Form [] (rows_of v)
  pub ended : (v : V) → left (rows_of v) ≡ 0
  pub fine : (v : V) → Within v → EachRow Fine [] (rows_of v)
  pub value_again : (v : V) → value_of (rows_of v) ≡ v
  pub rows_again : (rows : List R) → EachRow Form [] rows → left rows ≡ 0 → rows_of (value_of rows) ≡ rows
  pub within : (rows : List R) → EachRow Form [] rows → left rows ≡ 0 → EachRow Fine [] rows → Within (value_of rows)

module _ {V R : Type 0} (lines : V → List Line) (Within : V → Type 0) (line_at : List R → R → Line) (Form Fine : List R → R → Type 0)
    (left : List R → ℕ) (plain : List R → R) (rows_of : V → List R) (value_of : List R → V)
    (kind : IsKind lines Within line_at Form Fine left plain rows_of value_of) where
  -- no line has an end in it, and the rows of one value do not go on behind those of another

  rows_have_no_ends : (front rows : List R) → EachRow Form front rows → All HasNoEnd (row_lines line_at front rows)
  rows_have_no_ends front [] all = λ k d h. absurd (omega arith)
  rows_have_no_ends front (r ∷ rows) all =
      line_in_front (line_at front r) (row_lines line_at (front ++ r ∷ []) rows) (kind.no_end front r all.0) (rows_have_no_ends (front ++ r ∷ []) rows all.1)

  no_ends : (v : V) → All HasNoEnd (lines v)
  no_ends v = let P : List Line → Type 0 = λ ls. All HasNoEnd ls in subst P (sym (kind.spelt v)) (rows_have_no_ends [] (rows_of v) (kind.formed v))

  rows_alone : (front xs ys : List R) (rest : List Line) → EachRow Form front xs → EachRow Form front ys → left (front ++ xs) ≡ 0
      → row_lines line_at front ys ≡ row_lines line_at front xs ++ rest → (xs ≡ ys) × (rest ≡ [])
  rows_alone front [] [] rest x y none e = (refl, sym e)
  rows_alone front [] (t ∷ ys) rest x y none e = absurd (kind.ends front t (ap left (sym (append-nil front)) ∙ none) y.0)
  rows_alone front (r ∷ xs) [] rest x y none e = absurd (cc)
  rows_alone front (r ∷ xs) (t ∷ ys) rest x y none e =
      let h : line_at front t ≡ line_at front r = cc in
      let same : t ≡ r = kind.told front t r y.0 x.0 h in
      let more : row_lines line_at (front ++ t ∷ []) ys ≡ row_lines line_at (front ++ r ∷ []) xs ++ rest = cc in
      let P : R → Type 0 = λ q. EachRow Form (front ++ q ∷ []) ys in
      let Q : R → Type 0 = λ q. row_lines line_at (front ++ q ∷ []) ys ≡ row_lines line_at (front ++ r ∷ []) xs ++ rest in
      let after = rows_alone (front ++ r ∷ []) xs ys rest x.1 (subst P same y.1) (ap left (append_assoc front (r ∷ []) xs) ∙ none) (subst Q same more) in
      (ap (λ q. q ∷ xs) (sym same) ∙ ap (λ qs. t ∷ qs) after.0, after.1)

  alone : (v w : V) (rest : List Line) → lines w ≡ lines v ++ rest → (v ≡ w) × (rest ≡ [])
  alone v w rest e =
      let f : row_lines line_at [] (rows_of w) ≡ row_lines line_at [] (rows_of v) ++ rest = sym (kind.spelt w) ∙ e ∙ ap (λ ls. ls ++ rest) (kind.spelt v) in
      let same = rows_alone [] (rows_of v) (rows_of w) rest (kind.formed v) (kind.formed w) (kind.ended v) f in
      (sym (kind.value_again v) ∙ ap value_of same.0 ∙ kind.value_again w, same.1)

  pub is_spelling : IsSpelling lines
  is_spelling = record { no_ends = no_ends; alone = alone }

  -- any rows so far begin those of a value, which is within the limits where they are fine

  more_rows : (n : ℕ) (front : List R) → EachRow Form [] front → left front ≡ n
      → (more : List R) × EachRow Form [] (front ++ more) × (left (front ++ more) ≡ 0) × (EachRow Fine [] front → EachRow Fine [] (front ++ more))
  more_rows zero front all none =
      let P : List R → Type 0 = λ rows. EachRow Form [] rows in
      let Q : List R → Type 0 = λ rows. EachRow Fine [] rows in
      ([], subst P (sym (append-nil front)) all, ap left (append-nil front) ∙ none, λ fine. subst Q (sym (append-nil front)) fine)
  more_rows (suc n) front all some =
      let p = plain front in
      let next = kind.goes_on front n all some in
      let after = more_rows n (front ++ p ∷ []) (EachRow-append Form [] front (p ∷ []) all (next.0, tt)) next.1 in
      let behind = append_assoc front (p ∷ []) after.0 in
      let P : List R → Type 0 = λ rows. EachRow Form [] rows in
      let Q : List R → Type 0 = λ rows. EachRow Fine [] rows in (
        p ∷ after.0,
        subst P behind after.1,
        ap left (sym behind) ∙ after.2,
        λ fine. subst Q behind (after.3 (EachRow-append Fine [] front (p ∷ []) fine (kind.plain_fine front n all fine some, tt))),
      )

  value_with : (front : List R) → EachRow Form [] front → (v : V) × (more : List R) × (rows_of v ≡ front ++ more) × (EachRow Fine [] front → Within v)
  value_with front all =
      let rest = more_rows (left front) front all refl in
      (value_of (front ++ rest.0), rest.0, kind.rows_again (front ++ rest.0) rest.1 rest.2, λ fine. kind.within (front ++ rest.0) rest.1 rest.2 (rest.3 fine))

  -- the lines of a value that begins with these rows and one more
  behind_rows : (front more : List R) (r : R) (v : V) → rows_of v ≡ (front ++ r ∷ []) ++ more →
      lines v ≡ row_lines line_at [] front ++ line_at front r ∷ row_lines line_at (front ++ r ∷ []) more
  behind_rows front more r v is =
      kind.spelt v ∙ ap (row_lines line_at []) (is ∙ append_assoc front (r ∷ []) more) ∙ row_lines-append line_at [] front (r ∷ more)

  -- what a text that begins with the lines of these rows says of the row behind them
  row_behind : (front xs ys : List R) (line : Line) (more : List Line) → EachRow Form front xs → EachRow Form front ys
      → row_lines line_at front ys ≡ row_lines line_at front xs ++ line ∷ more →
      (r : R) × (after : List R) × (ys ≡ xs ++ r ∷ after) × (line ≡ line_at (front ++ xs) r)
  row_behind front [] [] line more x y e = absurd (cc)
  row_behind front [] (t ∷ ys) line more x y e =
      let h : line ≡ line_at front t = cc in
      (t, ys, refl, h ∙ ap (λ f. line_at f t) (sym (append-nil front)))
  row_behind front (r ∷ xs) [] line more x y e = absurd (cc)
  row_behind front (r ∷ xs) (t ∷ ys) line more x y e =
      let h : line_at front t ≡ line_at front r = cc in
      let same : t ≡ r = kind.told front t r y.0 x.0 h in
      let rest : row_lines line_at (front ++ t ∷ []) ys ≡ row_lines line_at (front ++ r ∷ []) xs ++ line ∷ more = cc in
      let P : R → Type 0 = λ q. EachRow Form (front ++ q ∷ []) ys in
      let Q : R → Type 0 = λ q. row_lines line_at (front ++ q ∷ []) ys ≡ row_lines line_at (front ++ r ∷ []) xs ++ line ∷ more in
      let after = row_behind (front ++ r ∷ []) xs ys line more x.1 (subst P same y.1) (subst Q same rest) in
      (after.0, after.1, ap (λ q. q ∷ ys) same ∙ ap (λ qs. r ∷ qs) after.2, after.3 ∙ ap (λ f. line_at f after.0) (append_assoc front (r ∷ []) xs))

  -- lines that are a row's, and rows that are fine as lines
  abbrev FormLine : List R → Line → Type 0
  FormLine rows line = (r : R) × Form rows r × (line ≡ line_at rows r)

  abbrev FineLine : List R → Line → Type 0
  FineLine rows line = (r : R) → Form rows r → line ≡ line_at rows r → Fine rows r

  row_of : (rows : List R) → EachRow Form [] rows → (v : V) (line : Line) (more : List Line) → lines v ≡ row_lines line_at [] rows ++ line ∷ more
      → (r : R) × (after : List R) × (rows_of v ≡ rows ++ r ∷ after) × (line ≡ line_at rows r)
  row_of rows all v line more e = row_behind [] rows (rows_of v) line more all (kind.formed v) (sym (kind.spelt v) ∙ e)

  -- behind these rows, where one is left, stands a line of a row
  place_behind : (rows : List R) (n : ℕ) → EachRow Form [] rows → EachRow Fine [] rows → left rows ≡ suc n →
      IsPlace lines Within (row_lines line_at [] rows) (FormLine rows) (FineLine rows)
  place_behind rows n all fine some =
      let p = plain rows in
      let next = kind.goes_on rows n all some in
      let with_plain = value_with (rows ++ p ∷ []) (EachRow-append Form [] rows (p ∷ []) all (next.0, tt)) in
      let good = EachRow-append Fine [] rows (p ∷ []) fine (kind.plain_fine rows n all fine some, tt) in
      let P : List R → Type 0 = λ ys. EachRow Form [] ys in
      let Q : List R → Type 0 = λ ys. EachRow Fine [] ys in
      record {
        no_ends = no_ends;
        begins = (
          with_plain.0,
          line_at rows p,
          row_lines line_at (rows ++ p ∷ []) with_plain.1,
          with_plain.3 good,
          behind_rows rows with_plain.1 p with_plain.0 with_plain.2,
        );
        form = λ v line more e.
            let row = row_of rows all v line more e in
            (row.0, (EachRow-back Form [] rows (row.0 ∷ row.1) (subst P row.2 (kind.formed v))).0, row.3);
        some = λ line has.
            let with_row = value_with (rows ++ has.0 ∷ []) (EachRow-append Form [] rows (has.0 ∷ []) all (has.1, tt)) in (
              with_row.0,
              row_lines line_at (rows ++ has.0 ∷ []) with_row.1,
              behind_rows rows with_row.1 has.0 with_row.0 with_row.2
                  ∙ ap (λ l. row_lines line_at [] rows ++ l ∷ row_lines line_at (rows ++ has.0 ∷ []) with_row.1) (sym has.2),
            );
        fine = λ v line more inside e. λ r form is.
            let row = row_of rows all v line more e in
            let stands = (EachRow-back Form [] rows (row.0 ∷ row.1) (subst P row.2 (kind.formed v))).0 in
            let same : row.0 ≡ r = kind.told rows row.0 r stands form (sym row.3 ∙ is) in
            let G : R → Type 0 = λ q. Fine rows q in
            subst G same (EachRow-back Fine [] rows (row.0 ∷ row.1) (subst Q row.2 (kind.fine v inside))).0;
      }

  -- the reader has read the lines of these rows, and all of them are right
  pub record HasRead (old mid : Given) (rows : List R) : Type 0 where
    pub formed : EachRow Form [] rows
    pub fine : EachRow Fine [] rows
    pub gives : GivesLines old mid (row_lines line_at [] rows) mid.rest

  pub read_nothing : (old : Given) → HasRead old old []
  read_nothing old = record { formed = tt; fine = tt; gives = no_lines old }

  pub read_more : (old mid new : Given) (rows : List R) (r : R) → HasRead old mid rows → Form rows r → Fine rows r → GivesLine mid new (line_at rows r) →
      HasRead old new (rows ++ r ∷ [])
  read_more old mid new rows r so_far form fine gives =
      let P : List Line → Type 0 = λ ls. GivesLines old new ls new.rest in
      record {
        formed = EachRow-append Form [] rows (r ∷ []) so_far.formed (form, tt);
        fine = EachRow-append Fine [] rows (r ∷ []) so_far.fine (fine, tt);
        gives = subst P (sym (row_lines-append line_at [] rows (r ∷ [])))
            (one_more_line old mid new (row_lines line_at [] rows) (line_at rows r) so_far.gives gives);
      }

  pub read_refused : (old mid new : Given) (rows : List R) (n : ℕ) (e : TextError) → HasRead old mid rows → left rows ≡ suc n →
      IsRefusedLine (FormLine rows) (FineLine rows) mid new e → IsReading lines Within old new (Err e)
  read_refused old mid new rows n e so_far some refused =
      refused_here lines Within (row_lines line_at [] rows) (FormLine rows) (FineLine rows) old mid new e (place_behind rows n so_far.formed so_far.fine some)
      so_far.gives refused

  pub read_whole : (old new : Given) (rows : List R) → HasRead old new rows → left rows ≡ 0 → Spells lines Within old new (value_of rows)
  read_whole old new rows so_far none =
      let P : List Line → Type 0 = λ ls. GivesLines old new ls new.rest in
      let spelt : row_lines line_at [] rows ≡ lines (value_of rows) = ap (row_lines line_at []) (sym (kind.rows_again rows so_far.formed none)) ∙
      sym (kind.spelt (value_of rows)) in
      record { within = kind.within rows so_far.formed none so_far.fine; gives = subst P spelt so_far.gives }

-- a line of a word and numbers that its reader refused
pub numbers_refused : (word : List ℕ) (Form Fine : List ℕ → Type 0) (old new : Given) (e : TextError) → IsLine word Form Fine old new (Err e)
    → IsRefusedLine (λ line. (ns : List ℕ) × Form ns × (line ≡ line_of word ns)) (λ line. (ns : List ℕ) → Form ns → line ≡ line_of word ns → Fine ns) old new e
numbers_refused word Form Fine old new (BadLine place) bad = (bad.line, bad.gives, λ has. bad.wrong has.0 has.1 has.2, bad.counted)
numbers_refused word Form Fine old new (Limit place) beyond = (
  line_of word beyond.numbers,
  beyond.gives,
  (beyond.numbers, beyond.form, refl),
  λ fine. beyond.outside (fine beyond.numbers beyond.form refl),
  beyond.counted,
)
numbers_refused word Form Fine old new TooShort short = short
numbers_refused word Form Fine old new (Trailing place) never = never
numbers_refused word Form Fine old new Memory stopped = stopped
