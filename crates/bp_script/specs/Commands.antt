-- The command of a row: its cells are tested in their order, and whether its nights are the hotel's comes after them.
use Rattle.std.specs.Prelude.{ℕ, nat_le, if◌then◌else◌, List, [], length, slice_index_or, Result, Ok, Err}
use Rattle.std.specs.Option.{ok_or}
use Rattle.bp_types.specs.declared.command.Command.{Command}
use Rattle.bp_types.specs.declared.command.Command.TheVariants.{Book, Cancel, Reforecast, Reprice, Resize, Group}
use Rattle.bp_types.specs.declared.limits.TheConstants.{MOST_RATE, MOST_FORECAST, MOST_ROOMS, MOST_GROUP_ROOMS, MOST_AMOUNT, MOST_ENTRIES}
use Rattle.bp_hotelfile.specs.declared.error.DateError.{DateError}
use Rattle.bp_hotelfile.specs.Numbers.{is_between}
use Rattle.bp_hotelfile.specs.Season.{Season, night_of}
use Rattle.bp_hotelfile.specs.Steps.{◌>>=◌}
use Rattle.bp_stayfile.specs.declared.error.TableRefusal.{TableRefusal}
use Rattle.bp_stayfile.specs.declared.error.TableRefusal.TheVariants.{NoCode, Limit, Outside}
use Rattle.bp_stayfile.specs.Tables.{Record}
use Rattle.bp_stayfile.specs.Codes.{stay_with}
use Rattle.bp_stayfile.specs.Cells.{code_in, number_in, date_in, span_in}
use Rattle.bp_script.specs.declared.verb.Verb.{Verb}
use Rattle.bp_script.specs.declared.verb.Verb.TheVariants as verb

-- the stay that a code names
abbrev pub stay_in : List (List ℕ) → ℕ → List ℕ → Result ℕ TableRefusal
stay_in codes line t = code_in line t >>= (λ _. ok_or (stay_with codes t) (NoCode line))

-- a number from least to most
abbrev pub number_within : ℕ → ℕ → ℕ → List ℕ → Result ℕ TableRefusal
number_within least most line t =
    number_in line t >>= (λ n. if is_between least most n then Ok n else Err (Limit line))

-- a number of nights: one at least
abbrev pub nights_in : ℕ → List ℕ → Result ℕ TableRefusal
nights_in line t = number_in line t >>= (λ n. if nat_le 1 n then Ok n else Err (Limit line))

-- a night of the hotel
abbrev pub night_in : ℕ → Result ℕ DateError → Result ℕ TableRefusal
night_in line (Ok night) = Ok night
night_in line (Err e) = Err (Outside line)

-- a room for the stay of a code
abbrev pub book_in : List (List ℕ) → ℕ → List ℕ → Result Command TableRefusal
book_in codes line item = stay_in codes line item >>= (λ stay. Ok (Book stay))

-- the session's own booking call of a number
abbrev pub cancel_in : ℕ → List ℕ → Result Command TableRefusal
cancel_in line item = number_within 1 MOST_ENTRIES line item >>= (λ nth. Ok (Cancel nth))

-- the forecast of a code's stay, in units
abbrev pub reforecast_in : List (List ℕ) → ℕ → List ℕ → List ℕ → Result Command TableRefusal
reforecast_in codes line item amount =
    stay_in codes line item >>= (λ stay.
    number_within 0 MOST_FORECAST line amount >>= (λ count.
    Ok (Reforecast stay count)))

-- the rate of a code's stay
abbrev pub reprice_in : List (List ℕ) → ℕ → List ℕ → List ℕ → Result Command TableRefusal
reprice_in codes line item amount =
    stay_in codes line item >>= (λ stay.
    number_within 1 MOST_RATE line amount >>= (λ rate.
    Ok (Reprice stay rate)))

-- the rooms of a date's night
abbrev pub resize_in : ℕ → Result ℕ DateError → List ℕ → Result Command TableRefusal
resize_in line date rooms =
    date_in line date >>= (λ _.
    number_within 0 MOST_ROOMS line rooms >>= (λ rooms.
    night_in line date >>= (λ night.
    Ok (Resize night rooms))))

-- so many rooms for so many nights from an arrival, for an amount
abbrev pub group_in : ℕ → ℕ → Result ℕ DateError → List ℕ → List ℕ → List ℕ → Result Command TableRefusal
group_in line total arrival nights rooms amount =
    date_in line arrival >>= (λ _.
    nights_in line nights >>= (λ nights.
    number_within 1 MOST_GROUP_ROOMS line rooms >>= (λ rooms.
    number_within 0 MOST_AMOUNT line amount >>= (λ amount.
    span_in line total arrival nights >>= (λ span.
    Ok (Group span rooms amount))))))

-- the cell that says what a verb is about: a code, a number or a date
abbrev pub item_cell : Record → List ℕ
item_cell row = slice_index_or row 2 []

-- the cell with the nights of a group
abbrev pub nights_cell : Record → List ℕ
nights_cell row = slice_index_or row 3 []

-- the cell with a number of rooms
abbrev pub rooms_cell : Record → List ℕ
rooms_cell row = slice_index_or row 4 []

-- the cell with an amount, a forecast or a rate
abbrev pub amount_cell : Record → List ℕ
amount_cell row = slice_index_or row 5 []

-- the command of a row with a verb; the cells that the verb does not use are not read
abbrev pub command_in : Season → List (List ℕ) → ℕ → Record → Verb → Result Command TableRefusal
command_in season codes line row verb.Book = book_in codes line (item_cell row)
command_in season codes line row verb.Cancel = cancel_in line (item_cell row)
command_in season codes line row verb.Reforecast = reforecast_in codes line (item_cell row) (amount_cell row)
command_in season codes line row verb.Reprice = reprice_in codes line (item_cell row) (amount_cell row)
command_in season codes line row verb.Resize = resize_in line (night_of season (item_cell row)) (rooms_cell row)
command_in season codes line row verb.Group =
    group_in line (length season.rooms) (night_of season (item_cell row)) (nights_cell row) (rooms_cell row) (amount_cell row)
