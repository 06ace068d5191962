-- The stays file.
use Rattle.std.specs.Prelude.{ℕ, ◌+◌, if◌then◌else◌, List, [], ◌∷◌, map, length, slice_index_or, is_some, Result, Ok, Err}
use Rattle.bp_types.specs.declared.stay.Stay.{Stay}
use Rattle.bp_hotelfile.specs.Steps.{◌>>=◌}
use Rattle.bp_hotelfile.specs.Season.{Season, night_of}
use Rattle.bp_stayfile.specs.declared.column.Column.{Column}
use Rattle.bp_stayfile.specs.declared.column.Column.TheVariants as column
use Rattle.bp_stayfile.specs.declared.error.TableRefusal.{TableRefusal}
use Rattle.bp_stayfile.specs.declared.error.TableRefusal.TheVariants.{TwiceCode}
use Rattle.bp_stayfile.specs.Tables.{Record, Table, table_of}
use Rattle.bp_stayfile.specs.Cells.{code_in, number_in, date_in, span_in, limits_in}
use Rattle.bp_stayfile.specs.Codes.{stay_with}
use Rattle.bp_stayfile.specs.Reading.{table_read}
use Rattle.bp_stayfile.specs.StayList.{StayList}

-- a code that no earlier row has
abbrev pub once : ℕ → List (List ℕ) → List ℕ → Result (Unit {0}) TableRefusal
once line codes code = if is_some (stay_with codes code) then Err (TwiceCode line) else Ok tt

-- the stay of a row, after rows with these codes: the tests in their order
abbrev pub stay_in : Season → List (List ℕ) → Record → Result Stay TableRefusal
stay_in season codes row =
    let line = length codes + 2 in
    let arrival = night_of season (slice_index_or row 1 []) in
    code_in line (slice_index_or row 0 []) >>= (λ _.
    date_in line arrival >>= (λ _.
    number_in line (slice_index_or row 2 []) >>= (λ nights.
    number_in line (slice_index_or row 3 []) >>= (λ rate.
    limits_in line (length codes) nights rate >>= (λ _.
    span_in line (length season.rooms) arrival nights >>= (λ span.
    once line codes (slice_index_or row 0 []) >>= (λ _.
    Ok (record { span = span; rate = rate; forecast = 0 }))))))))

-- a stay with its code
abbrev pub Coded : Type 0
Coded = List ℕ × Stay

-- their codes
abbrev pub codes_of : List Coded → List (List ℕ)
codes_of = map (λ c. c.0)

-- the stays without their codes
abbrev pub stays_of : List Coded → List Stay
stays_of = map (λ c. c.1)

-- what a row says after the rows before it
abbrev pub stay_rule : Season → List Coded → Record → Result Coded TableRefusal
stay_rule season before row =
    stay_in season (codes_of before) row >>= (λ stay. Ok (slice_index_or row 0 [], stay))

-- the columns of the stays file
abbrev pub stay_columns : List Column
stay_columns = column.Code ∷ column.Arrival ∷ column.Nights ∷ column.Rate ∷ []

-- stays with their codes, as a list within the nights of the season
abbrev pub list_of : Season → List Coded → StayList
list_of season coded = record { nights = length season.rooms; codes = codes_of coded; stays = stays_of coded }

-- the stays of a table, or its first refusal
abbrev pub stays_under : Season → Table → Result StayList TableRefusal
stays_under season table = table_read (stay_rule season) table >>= (λ coded. Ok (list_of season coded))

-- the stays of a stays file with their codes, nothing forecast yet; or its first refusal
abbrev pub stays_file : Season → List ℕ → Result StayList TableRefusal
stays_file season bytes = table_of stay_columns bytes >>= stays_under season
