-- The rows of a forecast or a bookings file: a count for each stay that is named.
use Rattle.std.specs.Prelude.{ℕ, ◌+◌, nat_le, ◌==◌, if◌then◌else◌, List, [], ◌∷◌, length, slice_index_or, Option, Some, None, Result, Ok, Err}
use Rattle.std.specs.Option.{ok_or}
use Rattle.bp_types.specs.declared.limits.TheConstants.{MOST_FORECAST}
use Rattle.bp_hotelfile.specs.Steps.{◌>>=◌}
use Rattle.bp_stayfile.specs.declared.column.Column.{Column}
use Rattle.bp_stayfile.specs.declared.column.Column.TheVariants as column
use Rattle.bp_stayfile.specs.declared.counts.Counted.{Counted}
use Rattle.bp_stayfile.specs.declared.error.TableRefusal.{TableRefusal}
use Rattle.bp_stayfile.specs.declared.error.TableRefusal.TheVariants.{NoCode, Limit, TwiceCode}
use Rattle.bp_stayfile.specs.Tables.{Record, table_of}
use Rattle.bp_stayfile.specs.Cells.{code_in, number_in}
use Rattle.bp_stayfile.specs.Codes.{stay_with}
use Rattle.bp_stayfile.specs.Reading.{table_read}

-- the count that a list of counts has for a stay
abbrev pub count_of : List Counted → ℕ → Option ℕ
count_of [] stay = None
count_of (c ∷ cs) stay = if c.stay == stay then Some c.count else count_of cs stay

-- a count that may be a forecast
abbrev pub count_in : ℕ → Counted → Result Counted TableRefusal
count_in line c = if nat_le c.count MOST_FORECAST then Ok c else Err (Limit line)

-- the count of a row: the tests in their order, up to its limit
abbrev pub counted_in : List (List ℕ) → ℕ → Record → Result Counted TableRefusal
counted_in codes line row =
    code_in line (slice_index_or row 0 []) >>= (λ _.
    ok_or (stay_with codes (slice_index_or row 0 [])) (NoCode line) >>= (λ stay.
    number_in line (slice_index_or row 1 []) >>= (λ count.
    count_in line (record { stay = stay; count = count }))))

-- a stay that no earlier row counts
abbrev pub once_counted : ℕ → Option ℕ → Counted → Result Counted TableRefusal
once_counted line None c = Ok c
once_counted line (Some earlier) c = Err (TwiceCode line)

-- what a row says after the rows before it
abbrev pub count_rule : List (List ℕ) → List Counted → Record → Result Counted TableRefusal
count_rule codes before row =
    counted_in codes (length before + 2) row >>= (λ c. once_counted (length before + 2) (count_of before c.stay) c)

-- the columns of both files
abbrev pub count_columns : List Column
count_columns = column.Code ∷ column.Count ∷ []

-- the counts of a file, or its first refusal
abbrev pub counts_file : List (List ℕ) → List ℕ → Result (List Counted) TableRefusal
counts_file codes bytes = table_of count_columns bytes >>= table_read (count_rule codes)
