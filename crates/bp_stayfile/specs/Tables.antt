-- A table: the records that `csv` gives, their columns found by name.
use Rattle.std.specs.Prelude.{
  ◌≡◌,
  ℕ,
  ◌+◌,
  Bool,
  ◌&&◌,
  ◌==◌,
  if◌then◌else◌,
  List,
  [],
  ◌∷◌,
  map,
  find,
  length,
  slice_index_or,
  Option,
  Some,
  None,
  Result,
  Ok,
  Err,
}
use Rattle.std.specs.List.{list_all, prefix_len, position_or_len, take_while}
use Rattle.std.specs.Str.{is_utf8, bytes_eq}
use Rattle.csv.specs.Reading.{default_config, records, strip_bom}
use Rattle.bp_stayfile.specs.declared.column.Column.{Column}
use Rattle.bp_stayfile.specs.declared.error.TableRefusal.{TableRefusal}
use Rattle.bp_stayfile.specs.declared.error.TableRefusal.TheVariants.{Column as Lacks, NotCsv}
use Rattle.bp_stayfile.specs.Columns.{column_text}
use Rattle.bp_stayfile.specs.Fields.{stripped}

-- a record: its fields
abbrev pub Record : Type 0
Record = List (List ℕ)

-- the records of a text, where one byte order mark at its front is skipped, as `csv` gives them by its defaults
abbrev pub records_of : List ℕ → List Record
records_of bytes = records default_config (strip_bom bytes)

-- each field is UTF-8
abbrev pub is_text : Record → Bool
is_text fields = list_all is_utf8 fields

-- as many fields as the header, each of them UTF-8
abbrev pub is_taken : ℕ → Record → Bool
is_taken width fields = (length fields == width) && is_text fields

-- the place of the first header field of a column's name, or past the last one where there is none
abbrev pub place_of : Record → Column → ℕ
place_of header column = position_or_len (λ name. bytes_eq (stripped name) (column_text column)) header

-- the first named column that the header lacks
abbrev pub lacking : Record → List Column → Option Column
lacking header columns = find (λ c. place_of header c == length header) columns

-- a field of a record, without the spaces at its ends
abbrev pub field_at : Record → ℕ → List ℕ
field_at fields place = stripped (slice_index_or fields place [])

-- the places of the named columns
abbrev pub places_of : Record → List Column → List ℕ
places_of header columns = map (place_of header) columns

-- a record's fields at some places
abbrev pub row_at : List ℕ → Record → Record
row_at places fields = map (field_at fields) places

-- one row per record, one field per named column; and the line of the first record that is not taken, if there is one
pub record Table : Type 0 where
  pub columns : ℕ
  pub rows : List Record
  pub stop : Option ℕ

-- the line of the first record that is not taken, of records behind a line
abbrev pub stop_line : ℕ → ℕ → List Record → Option ℕ
stop_line line width records =
    if prefix_len (is_taken width) records == length records then None
    else Some (line + 1 + prefix_len (is_taken width) records)

-- the rows at some places behind a line, up to the first record that is not taken
abbrev pub rows_behind : ℕ → List ℕ → ℕ → List Record → Table
rows_behind line places width records =
    record { columns = length places; rows = map (row_at places) (take_while (is_taken width) records); stop = stop_line line width records }

-- the table, unless a column is missing
abbrev pub unless_lacking : Option Column → Table → Result Table TableRefusal
unless_lacking None table = Ok table
unless_lacking (Some c) table = Err (Lacks c)

-- the table under a header, which is line 1, or what is wrong with the header
abbrev pub table_under : List Column → Record → List Record → Result Table TableRefusal
table_under columns header records =
    if is_text header then unless_lacking (lacking header columns) (rows_behind 1 (places_of header columns) (length header) records) else Err (NotCsv 1)

-- the table of the records of a text; a text with no record has an empty header
abbrev pub table_from : List Column → List Record → Result Table TableRefusal
table_from columns [] = table_under columns [] []
table_from columns (header ∷ records) = table_under columns header records

-- the table of a text
abbrev pub table_of : List Column → List ℕ → Result Table TableRefusal
table_of columns bytes = table_from columns (records_of bytes)

-- a row with its line, and what stands behind it
pub record TableRow : Type 0 where
  pub line : ℕ
  pub fields : Record
  pub behind : Table

-- one row further
pub record IsNext (old new : TableRow) : Type 0 where
  pub line : new.line ≡ old.line + 1
  pub rows : old.behind.rows ≡ new.fields ∷ new.behind.rows
  pub stop : old.behind.stop ≡ new.behind.stop
  pub columns : new.behind.columns ≡ old.behind.columns
  pub one_each : length new.fields ≡ old.behind.columns

-- there is nothing behind the row
pub record IsLast (old : TableRow) : Type 0 where
  pub rows : old.behind.rows ≡ []
  pub stop : old.behind.stop ≡ None

-- the record behind the row is not taken
pub record IsBeforeStop (old : TableRow) (e : TableRefusal) : Type 0 where
  pub line : ℕ
  pub rows : old.behind.rows ≡ []
  pub stop : old.behind.stop ≡ Some line
  pub refusal : e ≡ NotCsv line

-- the header of a text with its columns, before the first row
pub record IsHeaderOf (columns : List Column) (bytes : List ℕ) (s : TableRow) : Type 0 where
  pub line : s.line ≡ 1
  pub table : table_of columns bytes ≡ Ok s.behind
