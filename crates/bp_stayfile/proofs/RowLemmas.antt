-- The rows of a table, and the places of its columns.
use Rattle.std.proofs.Common.{
  ◌≡◌,
  ◌∙◌,
  sym,
  ap,
  refl,
  ℕ,
  zero,
  suc,
  ◌+◌,
  ◌<◌,
  ◌≤◌,
  ◌==◌,
  ◌&&◌,
  Bool,
  true,
  false,
  cond,
  List,
  [],
  ◌∷◌,
  map,
  find,
  length,
  get_or,
  drop,
  Option,
  Some,
  None,
  arith,
  eq-eqb,
  inl,
  inr,
  not,
  Ok,
  Err,
}
use Rattle.std.specs.List.{All, prefix_len, take_while}
use Rattle.std.proofs.lemmas.Bool.{cases_eq, eqb-true, ne_eqb, false≢true}
use Rattle.std.proofs.lemmas.List.{drop_more, get_or-map, length-map}
use Rattle.std.proofs.lemmas.List.Sums.{prefix_len-le-length, take_while-cons}
use Rattle.bp_stayfile.specs.declared.column.Column.{Column}
use Rattle.bp_stayfile.specs.declared.column.Column.TheVariants as column
use Rattle.std.specs.Str.{bytes_eq}
use Rattle.bp_stayfile.specs.Columns.{column_text}
use Rattle.bp_stayfile.specs.Fields.{stripped}
use Rattle.bp_stayfile.specs.declared.error.TableRefusal.{TableRefusal}
use Rattle.bp_stayfile.specs.declared.error.TableRefusal.TheVariants.{NotCsv}
use Rattle.bp_stayfile.specs.Tables.{
  Record,
  Table,
  is_text,
  is_taken,
  place_of,
  places_of,
  lacking,
  row_at,
  rows_behind,
  unless_lacking,
  table_under,
  table_from,
  table_of,
  records_of,
}

-- an element more that does not pass
pub find-more : {X : Type 0} (p : X → Bool) (xs : List X) (i : ℕ) (d : X) → i < length xs → p (get_or xs i d) ≡ false →
    find p (drop i xs) ≡ find p (drop (i + 1) xs)
find-more p xs i d h no_match = rw (drop_more xs i d h, no_match)

-- where none is found, none passes
none_found : {X : Type 0} (p : X → Bool) (xs : List X) (i : ℕ) (d : X) → find p xs ≡ None → i < length xs → p (get_or xs i d) ≡ false
none_found p [] i d none h = absurd (omega arith)
none_found p (x ∷ xs) zero d none h = first_fails (p x) none
  where
    first_fails : (b : Bool) → cond b (Some x) (find p xs) ≡ None → b ≡ false
    first_fails true e = absurd (cc)
    first_fails false e = refl
none_found p (x ∷ xs) (suc i) d none h = none_found p xs i d (later (p x) none) (omega arith)
  where
    later : (b : Bool) → cond b (Some x) (find p xs) ≡ None → find p xs ≡ None
    later true e = absurd (cc)
    later false e = e

-- each named column has its place in the header
pub places_fit : (header : Record) (columns : List Column) → lacking header columns ≡ None → All (λ p. p < length header) (places_of header columns)
places_fit header columns none k d below =
    let within : k < length columns = omega (arith, length-map columns (place_of header)) in
    let at : get_or (places_of header columns) k d ≡ place_of header (get_or columns k column.Code) =
    get_or-map (place_of header) columns k column.Code d within in
    let there : (place_of header (get_or columns k column.Code) == length header) ≡ false =
    none_found (λ c. place_of header c == length header) columns k column.Code none within in
    let most = prefix_len-le-length (λ name. not (bytes_eq (stripped name) (column_text (get_or columns k column.Code)))) header in
    rw at (below_end (place_of header (get_or columns k column.Code)) (length header) most there)
  where
    below_end : (p n : ℕ) → p ≤ n → (p == n) ≡ false → p < n
    below_end p n le apart = elim (cases_eq p n) [ inl same ↦ absurd (false≢true (sym apart ∙ eq-eqb p n same)) | inr other ↦ omega arith ]

-- a record that is taken is text, and as wide as the header
pub taken_tells : (width : ℕ) (fields : Record) → is_taken width fields ≡ true → (length fields ≡ width) × (is_text fields ≡ true)
taken_tells width fields e = by_tests (length fields == width) (is_text fields) refl refl e
  where
    by_tests : (a b : Bool) → a ≡ (length fields == width) → b ≡ is_text fields → (a && b) ≡ true → (length fields ≡ width) × (is_text fields ≡ true)
    by_tests true b same text h = (eqb-true (length fields) width (sym same), sym text ∙ h)
    by_tests false b same text h = absurd (false≢true h)

stops_same : (line n m k l : ℕ) → k ≡ 1 + n → l ≡ 1 + m → cond (k == l) None (Some (line + 1 + k)) ≡ cond {A = Option ℕ} (n == m) None (Some (line + 1 + 1 + n))
stops_same line n m k l one more =
    elim (cases_eq n m) [
      | inl same ↦ rw (eq-eqb n m same, eq-eqb k l (omega (arith, one, more, same))) refl
      | inr other ↦ rw (ne_eqb n m other, ne_eqb k l (λ e. other (omega (arith, one, more, e)))) (ap Some (omega (arith, one)))
    ]

-- the rows behind a line, where the first record is taken
pub behind_taken : (line : ℕ) (places : List ℕ) (width : ℕ) (fields : Record) (rest : List Record) → is_taken width fields ≡ true →
    ((rows_behind line places width (fields ∷ rest)).rows ≡ row_at places fields ∷ (rows_behind (line + 1) places width rest).rows)
    × ((rows_behind line places width (fields ∷ rest)).stop ≡ (rows_behind (line + 1) places width rest).stop)
behind_taken line places width fields rest taken =
    let p = is_taken width in
    let rows : take_while p (fields ∷ rest) ≡ fields ∷ take_while p rest = take_while-cons p fields rest ∙
    ap (λ b. cond b (fields ∷ take_while p rest) []) taken in
    let many : prefix_len p (fields ∷ rest) ≡ 1 + prefix_len p rest = ap (λ b. cond b (1 + prefix_len p rest) 0) taken in
    let size : length (fields ∷ rest) ≡ 1 + length rest = omega arith in
    (ap (map (row_at places)) rows, stops_same line (prefix_len p rest) (length rest) (prefix_len p (fields ∷ rest)) (length (fields ∷ rest)) many size)

-- and where it is not
pub behind_wrong : (line : ℕ) (places : List ℕ) (width : ℕ) (fields : Record) (rest : List Record) → is_taken width fields ≡ false →
    ((rows_behind line places width (fields ∷ rest)).rows ≡ []) × ((rows_behind line places width (fields ∷ rest)).stop ≡ Some (line + 1))
behind_wrong line places width fields rest wrong =
    let p = is_taken width in
    let rows : take_while p (fields ∷ rest) ≡ [] = take_while-cons p fields rest ∙ ap (λ b. cond b (fields ∷ take_while p rest) []) wrong in
    let none : prefix_len p (fields ∷ rest) ≡ 0 = ap (λ b. cond b (1 + prefix_len p rest) 0) wrong in
    let apart : (prefix_len p (fields ∷ rest) == length (fields ∷ rest)) ≡ false =
    ne_eqb (prefix_len p (fields ∷ rest)) (length (fields ∷ rest)) (λ e. omega (arith, e, none)) in
    (ap (map (row_at places)) rows, rw apart (ap Some (omega (arith, none))))

-- the table of records whose first one is a right header
pub table_from-right : (columns : List Column) (records rest : List Record) (header : Record) → records ≡ header ∷ rest → is_text header ≡ true →
    lacking header columns ≡ None →
    table_from columns records ≡ Ok (rows_behind 1 (places_of header columns) (length header) rest)
table_from-right columns records rest header is text all = rw (is, text, all) refl

-- and of records whose first one is a wrong header
pub table_from-wrong : (columns : List Column) (records rest : List Record) (header : Record) (e : TableRefusal) → records ≡ header ∷ rest →
    ((behind : List Record) → table_under columns header behind ≡ Err e) →
    table_from columns records ≡ Err e
table_from-wrong columns records rest header e is wrong = rw is (wrong rest)

-- a table has the named columns
columns_under : (columns : List Column) (header : Record) (records : List Record) (table : Table) (text : Bool) (lacks : Option Column) →
    cond text (unless_lacking lacks (rows_behind 1 (places_of header columns) (length header) records)) (Err (NotCsv 1)) ≡ Ok table →
    table.columns ≡ length columns
columns_under columns header records table true None e =
    let same : rows_behind 1 (places_of header columns) (length header) records ≡ table = (cc) in
    sym (ap (λ (t : Table). t.columns) same) ∙ length-map columns (place_of header)
columns_under columns header records table true (Some c) e = absurd (cc)
columns_under columns header records table false lacks e = absurd (cc)

columns_from : (columns : List Column) (records : List Record) (table : Table) → table_from columns records ≡ Ok table → table.columns ≡ length columns
columns_from columns [] table e = columns_under columns [] [] table (is_text []) (lacking [] columns) e
columns_from columns (header ∷ records) table e = columns_under columns header records table (is_text header) (lacking header columns) e

pub columns_of : (columns : List Column) (bytes : List ℕ) (table : Table) → table_of columns bytes ≡ Ok table → table.columns ≡ length columns
columns_of columns bytes table e = columns_from columns (records_of bytes) table e
