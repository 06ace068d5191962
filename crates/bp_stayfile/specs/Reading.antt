-- A table is read row by row, and the first refusal is the answer.
use Rattle.std.specs.Prelude.{◌≡◌, ◌⊎◌, ℕ, zero, suc, ◌<◌, List, [], ◌∷◌, ◌++◌, length, slice_index_or, Option, Some, None, Result, Ok, Err}
use Rattle.bp_hotelfile.specs.Steps.{◌>>=◌}
use Rattle.bp_stayfile.specs.declared.error.TableRefusal.{TableRefusal}
use Rattle.bp_stayfile.specs.declared.error.TableRefusal.TheVariants.{NotCsv}
use Rattle.bp_stayfile.specs.Tables.{Record, Table}

-- rows that each say something of one kind
module _ {A : Type 0} where
  -- what the first n rows say, by a rule that is told what the rows before a row said
  abbrev pub rows_read : (List A → Record → Result A TableRefusal) → List Record → ℕ → Result (List A) TableRefusal
  rows_read rule rows zero = Ok []
  rows_read rule rows (suc n) =
      rows_read rule rows n >>= (λ before. rule before (slice_index_or rows n []) >>= (λ answer. Ok (before ++ answer ∷ [])))

  -- what was read, unless a record is not taken
  abbrev pub unless_stopped : Option ℕ → List A → Result (List A) TableRefusal
  unless_stopped None answers = Ok answers
  unless_stopped (Some line) answers = Err (NotCsv line)

  -- why a row is not read, or why there is none more to read
  abbrev pub stops_at : (List A → Record → Result A TableRefusal) → Table → ℕ → List A → TableRefusal → Type 0
  stops_at rule table n before e =
      ((n < length table.rows) × (rule before (slice_index_or table.rows n []) ≡ Err e)) ⊎
      ((n ≡ length table.rows) × (unless_stopped table.stop before ≡ Err e))

  -- a table that is refused, with what the rows before the refused record said
  pub record IsRefusedAfter (rule : List A → Record → Result A TableRefusal) (table : Table) (before : List A) (e : TableRefusal) : Type 0 where
    pub read_rows : ℕ
    pub read : rows_read rule table.rows read_rows ≡ Ok before
    pub stops : stops_at rule table read_rows before e

  -- what the rows of a table say
  abbrev pub table_read : (List A → Record → Result A TableRefusal) → Table → Result (List A) TableRefusal
  table_read rule table = rows_read rule table.rows (length table.rows) >>= unless_stopped table.stop
