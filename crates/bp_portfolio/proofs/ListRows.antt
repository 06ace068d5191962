-- A list of hotels as a kind of text: its rows are the numbers of the first two lines, the names of each hotel, and none.
use Rattle.std.proofs.Common.{
  ◌≡◌,
  ℕ,
  zero,
  suc,
  ◌+◌,
  ◌-◌,
  ◌≤◌,
  refl,
  ap,
  sym,
  subst,
  ◌∙◌,
  arith,
  Bool,
  true,
  false,
  List,
  [],
  ◌∷◌,
  ◌++◌,
  length,
  map,
  All,
  slice_index,
  append_assoc,
  length-append,
}
use Rattle.std.specs.Prelude.{codes, IsTrue}
use Rattle.std.specs.List.{list_all}
use Rattle.std.proofs.Math.Bool.{Bool-set}
use Rattle.std.proofs.Math.ListN.{length-map}
use Rattle.std.proofs.lemmas.Bool.{and_parts, and_from}
use Rattle.bp_types.specs.declared.limits.TheConstants.{MOST_HOTELS}
use Rattle.bp_text.specs.Lines.{Line, HasNoEnd, line_of}
use Rattle.bp_text.specs.Kinds.{EachRow, row_lines}
use Rattle.bp_text.proofs.EndLemmas.{no_end_in_spelled}
use Rattle.bp_text.proofs.LineLemmas.{line_injective}
use Rattle.bp_text.proofs.NextLemmas.{only_number, no_numbers}
use Rattle.bp_text.proofs.KindLemmas.{IsKind}
use Rattle.bp_portfolio.specs.Lists.{FiveNames, is_named, names_line, Listed, hotel_lines, list_lines, IsManyHotels, IsPortfolio}
use Rattle.bp_portfolio.proofs.NameLemmas.{names_no_end, names_injective}

-- the numbers or the names of a line
pub data Row : Type 0 where
  Numbers : List ℕ → Row
  Files : FiveNames → Row

abbrev pub Rows : Type 0
Rows = List Row

-- the first of its numbers
abbrev pub count_of : Row → ℕ
count_of (Numbers ns) = slice_index ns 0
count_of (Files n) = 0

-- how many lines are left, where one hotel is to come as long as they are not counted
abbrev pub lines_left : Rows → ℕ
lines_left [] = 4
lines_left (a ∷ []) = 3
lines_left (a ∷ b ∷ done) = (count_of b + 1) - length done

-- the word of a line of numbers
abbrev word_at : Rows → List ℕ
word_at [] = codes "portfolio 1"
word_at (a ∷ []) = codes "hotels"
word_at (a ∷ b ∷ done) = codes "end"

abbrev pub row_line : List ℕ → Row → Line
row_line word (Numbers ns) = line_of word ns
row_line word (Files n) = names_line n

abbrev pub line_at : Rows → Row → Line
line_at rows r = row_line (word_at rows) r

-- so many numbers
abbrev pub HasCount : ℕ → Row → Type 0
HasCount k (Numbers ns) = length ns ≡ k
HasCount k (Files n) = ⊥

-- five names
abbrev pub AreFiles : Row → Type 0
AreFiles (Numbers ns) = ⊥
AreFiles (Files n) = IsTrue (is_named n)

-- with so many lines left behind the head, stands a hotel, or the last line, or nothing
abbrev pub tail_form : ℕ → Row → Type 0
tail_form zero r = ⊥
tail_form (suc zero) r = HasCount 0 r
tail_form (suc (suc n)) r = AreFiles r

abbrev pub Form : Rows → Row → Type 0
Form [] r = HasCount 0 r
Form (a ∷ []) r = HasCount 1 r
Form (a ∷ b ∷ done) r = tail_form ((count_of b + 1) - length done) r

-- as many hotels as there may be
abbrev pub AreFew : Row → Type 0
AreFew (Numbers ns) = All (λ n. (1 ≤ n) × (n ≤ MOST_HOTELS)) ns
AreFew (Files n) = Unit {0}

abbrev pub Fine : Rows → Row → Type 0
Fine [] r = Unit {0}
Fine (a ∷ []) r = AreFew r
Fine (a ∷ b ∷ done) r = Unit {0}

-- some row that may stand there

abbrev some_names : FiveNames
some_names = record { hotel = codes "A"; stays = codes "A"; forecast = codes "A"; bookings = codes "A"; script = codes "A" }

abbrev tail_plain : ℕ → Row
tail_plain zero = Numbers []
tail_plain (suc zero) = Numbers []
tail_plain (suc (suc n)) = Files some_names

abbrev pub plain : Rows → Row
plain [] = Numbers []
plain (a ∷ []) = Numbers (1 ∷ [])
plain (a ∷ b ∷ done) = tail_plain ((count_of b + 1) - length done)

-- the rows of a list, and the list of rows

abbrev pub head_rows : ℕ → Rows
head_rows hotels = Numbers [] ∷ Numbers (hotels ∷ []) ∷ []

abbrev pub rows_of : Listed → Rows
rows_of v = head_rows (length v.0) ++ (map Files v.0 ++ Numbers [] ∷ [])

abbrev pub files_of : Rows → List FiveNames
files_of [] = []
files_of (Numbers ns ∷ rows) = files_of rows
files_of (Files n ∷ rows) = n ∷ files_of rows

abbrev pub listed_if : (hotels : List FiveNames) (b : Bool) → list_all is_named hotels ≡ b → Listed
listed_if hotels true e = (hotels, e)
listed_if hotels false e = ([], refl)

abbrev pub listed : List FiveNames → Listed
listed hotels = listed_if hotels (list_all is_named hotels) refl

abbrev pub list_of : Rows → Listed
list_of [] = ([], refl)
list_of (a ∷ []) = ([], refl)
list_of (a ∷ b ∷ done) = listed (files_of done)

-- hotels whose names are names are listed

listed_one : (hotels : List FiveNames) (b : Bool) (e : list_all is_named hotels ≡ b) (is : list_all is_named hotels ≡ true) → b ≡ true →
    listed_if hotels b e ≡ (hotels, is)
listed_one hotels true e is t = ap (λ p. (hotels, p)) (Bool-set (list_all is_named hotels) true e is)
listed_one hotels false e is t = absurd (cc)

pub listed_same : (hotels : List FiveNames) (is : list_all is_named hotels ≡ true) → listed hotels ≡ (hotels, is)
listed_same hotels is = listed_one hotels (list_all is_named hotels) refl is is

-- a row of names has names

abbrev IsNamedRow : Row → Type 0
IsNamedRow (Numbers ns) = Unit {0}
IsNamedRow (Files n) = IsTrue (is_named n)

counted_named : (k : ℕ) (r : Row) → HasCount k r → IsNamedRow r
counted_named k (Numbers ns) form = tt
counted_named k (Files n) form = absurd form

files_named : (r : Row) → AreFiles r → IsNamedRow r
files_named (Numbers ns) form = absurd form
files_named (Files n) form = form

tail_named : (k : ℕ) (r : Row) → tail_form k r → IsNamedRow r
tail_named zero r form = absurd form
tail_named (suc zero) r form = counted_named 0 r form
tail_named (suc (suc k)) r form = files_named r form

row_named : (front : Rows) (r : Row) → Form front r → IsNamedRow r
row_named [] r form = counted_named 0 r form
row_named (a ∷ []) r form = counted_named 1 r form
row_named (a ∷ b ∷ done) r form = tail_named ((count_of b + 1) - length done) r form

word_fits : (front : Rows) (ns : List ℕ) → HasNoEnd (line_of (word_at front) ns)
word_fits [] ns = no_end_in_spelled (codes "portfolio 1") ns refl
word_fits (a ∷ []) ns = no_end_in_spelled (codes "hotels") ns refl
word_fits (a ∷ b ∷ done) ns = no_end_in_spelled (codes "end") ns refl

row_no_end : (front : Rows) (r : Row) → IsNamedRow r → HasNoEnd (line_at front r)
row_no_end front (Numbers ns) is = word_fits front ns
row_no_end front (Files n) is = names_no_end n is

-- numbers and names do not stand at one place

not_both_tail : (k : ℕ) (ns : List ℕ) (n : FiveNames) → tail_form k (Numbers ns) → tail_form k (Files n) → ⊥
not_both_tail zero ns n a b = a
not_both_tail (suc zero) ns n a b = b
not_both_tail (suc (suc k)) ns n a b = a

not_both : (front : Rows) (ns : List ℕ) (n : FiveNames) → Form front (Numbers ns) → Form front (Files n) → ⊥
not_both [] ns n a b = b
not_both (x ∷ []) ns n a b = b
not_both (x ∷ y ∷ done) ns n a b = not_both_tail ((count_of y + 1) - length done) ns n a b

told : (front : Rows) (r t : Row) → Form front r → Form front t → line_at front r ≡ line_at front t → r ≡ t
told front (Numbers ns) (Numbers ms) f g e = ap Numbers (line_injective (word_at front) ns ms e)
told front (Numbers ns) (Files m) f g e = absurd (not_both front ns m f g)
told front (Files n) (Numbers ms) f g e = absurd (not_both front ms n g f)
told front (Files n) (Files m) f g e = ap Files (names_injective n m (row_named front (Files n) f) (row_named front (Files m) g) e)

ends : (front : Rows) (r : Row) → lines_left front ≡ 0 → Form front r → ⊥
ends [] r none form = omega arith
ends (a ∷ []) r none form = omega arith
ends (a ∷ b ∷ done) r none form = let P : ℕ → Type 0 = λ n. tail_form n r in subst P none form

tail_stands : (n : ℕ) → tail_form (suc n) (tail_plain (suc n))
tail_stands zero = refl
tail_stands (suc n) = refl

goes_on : (front : Rows) (n : ℕ) → EachRow Form [] front → lines_left front ≡ suc n → Form front (plain front) × (lines_left (front ++ plain front ∷ []) ≡ n)
goes_on [] n all some = (refl, omega arith)
goes_on (a ∷ []) n all some = (refl, omega arith)
goes_on (a ∷ b ∷ done) n all some =
    let P : ℕ → Type 0 = λ k. tail_form k (tail_plain k) in
    (subst P (sym some) (tail_stands n), omega (arith, some, length-append done (tail_plain ((count_of b + 1) - length done) ∷ [])))

one_is_few : All (λ n. (1 ≤ n) × (n ≤ MOST_HOTELS)) (1 ∷ [])
one_is_few zero d h = (omega arith, omega arith)
one_is_few (suc k) d h = absurd (omega arith)

plain_fine : (front : Rows) (n : ℕ) → EachRow Form [] front → EachRow Fine [] front → lines_left front ≡ suc n → Fine front (plain front)
plain_fine [] n all fine some = tt
plain_fine (a ∷ []) n all fine some = one_is_few
plain_fine (a ∷ b ∷ done) n all fine some = tt

-- the rows of the hotels

rest_spelt : (a b : Row) (done : Rows) (hotels : List FiveNames) → row_lines line_at (a ∷ b ∷ done) (map Files hotels ++ Numbers [] ∷ []) ≡ hotel_lines hotels
rest_spelt a b done [] = refl
rest_spelt a b done (n ∷ hotels) = ap (λ ls. names_line n ∷ ls) (rest_spelt a b (done ++ Files n ∷ []) hotels)

pub hotels_spelt : (a b : Row) (done : Rows) (hotels : List FiveNames) → row_lines line_at (a ∷ b ∷ done) (map Files hotels) ≡ map names_line hotels
hotels_spelt a b done [] = refl
hotels_spelt a b done (n ∷ hotels) = ap (λ ls. names_line n ∷ ls) (hotels_spelt a b (done ++ Files n ∷ []) hotels)

-- with so many hotels to come, and more
pub hotels_formed : (a b : Row) (more : ℕ) (done : Rows) (hotels : List FiveNames) → (count_of b + 1) - length done ≡ suc (length hotels + more) →
    list_all is_named hotels ≡ true
    → EachRow Form (a ∷ b ∷ done) (map Files hotels)
hotels_formed a b more done [] left are = tt
hotels_formed a b more done (n ∷ hotels) left are =
    let P : ℕ → Type 0 = λ k. tail_form k (Files n) in
    let parts = and_parts (is_named n) (list_all is_named hotels) are in (
      subst P (sym (left ∙ ap suc (let e : suc (length hotels) + more ≡ suc (length hotels + more) = omega arith in e))) parts.0,
      hotels_formed a b more (done ++ Files n ∷ []) hotels (omega (arith, left, length-append done (Files n ∷ []))) parts.1,
    )

rest_formed : (a b : Row) (done : Rows) (hotels : List FiveNames) → (count_of b + 1) - length done ≡ suc (length hotels) → list_all is_named hotels ≡ true
    → EachRow Form (a ∷ b ∷ done) (map Files hotels ++ Numbers [] ∷ [])
rest_formed a b done [] left are = let P : ℕ → Type 0 = λ k. tail_form k (Numbers []) in (subst P (sym left) refl, tt)
rest_formed a b done (n ∷ hotels) left are =
    let P : ℕ → Type 0 = λ k. tail_form k (Files n) in
    let parts = and_parts (is_named n) (list_all is_named hotels) are in
    (subst P (sym left) parts.0, rest_formed a b (done ++ Files n ∷ []) hotels (omega (arith, left, length-append done (Files n ∷ []))) parts.1)

pub tail_is_fine : (a b : Row) (done rows : Rows) → EachRow Fine (a ∷ b ∷ done) rows
tail_is_fine a b done [] = tt
tail_is_fine a b done (r ∷ rows) = (tt, tail_is_fine a b (done ++ r ∷ []) rows)

spelt : (v : Listed) → list_lines v ≡ row_lines line_at [] (rows_of v)
spelt v = let first = Numbers [] in let second = Numbers (length v.0 ∷ []) in
    ap (λ ls. codes "portfolio 1" ∷ line_of (codes "hotels") (length v.0 ∷ []) ∷ ls) (sym (rest_spelt first second [] v.0))

formed : (v : Listed) → EachRow Form [] (rows_of v)
formed v = (refl, (refl, rest_formed (Numbers []) (Numbers (length v.0 ∷ [])) [] v.0 (omega arith) v.1))

ended : (v : Listed) → lines_left (rows_of v) ≡ 0
ended v = omega (arith, length-append (map Files v.0) (Numbers [] ∷ []), length-map v.0 Files)

pub few : (k : ℕ) → IsManyHotels k → AreFew (Numbers (k ∷ []))
few k many zero d h = many
few k many (suc i) d h = absurd (omega arith)

fine : (v : Listed) → IsPortfolio v → EachRow Fine [] (rows_of v)
fine v within = (tt, (few (length v.0) within, tail_is_fine (Numbers []) (Numbers (length v.0 ∷ [])) [] (map Files v.0 ++ Numbers [] ∷ [])))

files_again : (hotels : List FiveNames) → files_of (map Files hotels ++ Numbers [] ∷ []) ≡ hotels
files_again [] = refl
files_again (n ∷ hotels) = ap (λ ns. n ∷ ns) (files_again hotels)

value_again : (v : Listed) → list_of (rows_of v) ≡ v
value_again v = ap listed (files_again v.0) ∙ listed_same v.0 v.1

-- behind the head stand hotels, and the last line

record AreHotels (b : Row) (done rest : Rows) : Type 0 where
  hotels : List FiveNames
  rows : rest ≡ map Files hotels ++ Numbers [] ∷ []
  are : list_all is_named hotels ≡ true
  counted : length done + length hotels ≡ count_of b

rows_are : (a b : Row) (done rest : Rows) → EachRow Form (a ∷ b ∷ done) rest → length done ≤ count_of b → (count_of b + 1) - length (done ++ rest) ≡ 0 →
    AreHotels b done rest
rows_are a b done [] all few none = absurd (omega (arith, length-append done [], few, none))
rows_are a b done (r ∷ rest) all few none =
    go ((count_of b + 1) - length done) refl all.0
    (λ more. rows_are a b (done ++ r ∷ []) rest all.1 more (ap (λ xs. (count_of b + 1) - length xs) (append_assoc done (r ∷ []) rest) ∙ none))
  where
    last : (r : Row) → HasCount 0 r → r ≡ Numbers []
    last (Numbers ns) form = ap Numbers (no_numbers ns form)
    last (Files n) form = absurd form

    nothing : (rest : Rows) → length (done ++ r ∷ []) ≡ count_of b + 1 → EachRow Form (a ∷ b ∷ (done ++ r ∷ [])) rest → rest ≡ []
    nothing [] full all = refl
    nothing (x ∷ rest) full all =
        let P : ℕ → Type 0 = λ k. tail_form k x in
        let zero_left : (count_of b + 1) - length (done ++ r ∷ []) ≡ 0 = omega (arith, full) in
        absurd (subst P zero_left all.0)

    names_of : (r : Row) → AreFiles r → (n : FiveNames) × (r ≡ Files n) × (is_named n ≡ true)
    names_of (Numbers ns) form = absurd form
    names_of (Files n) form = (n, refl, form)

    go : (k : ℕ) → (count_of b + 1) - length done ≡ k → Form (a ∷ b ∷ done) r → (length (done ++ r ∷ []) ≤ count_of b → AreHotels b (done ++ r ∷ []) rest) →
        AreHotels b done (r ∷ rest)
    go zero is form after = absurd (omega (arith, few, is))
    go (suc zero) is form after =
        let P : ℕ → Type 0 = λ k. tail_form k r in
        let is_last = last r (subst P is form) in
        let none_left = nothing rest (omega (arith, is, few, length-append done (r ∷ []))) all.1 in
        record { hotels = []; rows = ap (λ x. x ∷ rest) is_last ∙ ap (λ xs. Numbers [] ∷ xs) none_left; are = refl; counted = omega (arith, is, few) }
    go (suc (suc m)) is form behind =
        let P : ℕ → Type 0 = λ k. tail_form k r in
        let one = names_of r (subst P is form) in
        let after = behind (omega (arith, is, length-append done (r ∷ []))) in
        record {
          hotels = one.0 ∷ after.hotels;
          rows = ap (λ x. x ∷ rest) one.1 ∙ ap (λ xs. Files one.0 ∷ xs) after.rows;
          are = and_from (is_named one.0) (list_all is_named after.hotels) one.2 after.are;
          counted = omega (arith, after.counted, length-append done (r ∷ []));
        }

number_of : (b : Row) → HasCount 1 b → b ≡ Numbers (count_of b ∷ [])
number_of (Numbers ns) form = let one = only_number ns form in ap Numbers (one.1 ∙ ap (λ k. k ∷ []) (sym (ap (λ ns. slice_index ns 0) one.1)))
number_of (Files n) form = absurd form

no_number_of : (a : Row) → HasCount 0 a → a ≡ Numbers []
no_number_of (Numbers ns) form = ap Numbers (no_numbers ns form)
no_number_of (Files n) form = absurd form

-- rows that are a list's
record IsListOf (rows : Rows) : Type 0 where
  hotels : List FiveNames
  are : list_all is_named hotels ≡ true
  rows_are : rows ≡ head_rows (length hotels) ++ (map Files hotels ++ Numbers [] ∷ [])
  value_is : list_of rows ≡ (hotels, are)

is_list : (rows : Rows) → EachRow Form [] rows → lines_left rows ≡ 0 → IsListOf rows
is_list [] all none = absurd (omega arith)
is_list (a ∷ []) all none = absurd (omega arith)
is_list (a ∷ b ∷ done) all none =
    let rest = rows_are a b [] done all.1.1 (omega arith) none in
    let first = no_number_of a all.0 in
    let second = number_of b all.1.0 in
    let count : count_of b ≡ length rest.hotels = omega (arith, rest.counted) in
    record {
      hotels = rest.hotels;
      are = rest.are;
      rows_are = ap (λ x. x ∷ b ∷ done) first ∙ ap (λ x. Numbers [] ∷ x ∷ done) (second ∙ ap (λ k. Numbers (k ∷ [])) count) ∙
          ap (λ xs. Numbers [] ∷ Numbers (length rest.hotels ∷ []) ∷ xs) rest.rows;
      value_is = ap (λ xs. listed (files_of xs)) rest.rows ∙ ap listed (files_again rest.hotels) ∙ listed_same rest.hotels rest.are;
    }

rows_again : (rows : Rows) → EachRow Form [] rows → lines_left rows ≡ 0 → rows_of (list_of rows) ≡ rows
rows_again rows all none = let is = is_list rows all none in ap rows_of is.value_is ∙ sym is.rows_are

within : (rows : Rows) → EachRow Form [] rows → lines_left rows ≡ 0 → EachRow Fine [] rows → IsPortfolio (list_of rows)
within rows all none fine =
    let is = is_list rows all none in
    let P : Rows → Type 0 = λ rs. EachRow Fine [] rs in
    let good = subst P is.rows_are fine in
    let Q : Listed → Type 0 = λ v. IsPortfolio v in
    subst Q (sym is.value_is) (good.1.0 0 0 (omega arith))

pub list_kind : IsKind list_lines IsPortfolio line_at Form Fine lines_left plain rows_of list_of
list_kind = record {
  no_end = λ front r form. row_no_end front r (row_named front r form);
  told = told;
  ends = ends;
  goes_on = goes_on;
  plain_fine = plain_fine;
  spelt = spelt;
  formed = formed;
  ended = ended;
  fine = fine;
  value_again = value_again;
  rows_again = rows_again;
  within = within;
}
