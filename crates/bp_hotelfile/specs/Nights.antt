-- The tables of nights that have rooms of their own.
use Rattle.std.specs.Prelude.{
  codes,
  ◌≡◌,
  ℕ,
  ◌+◌,
  ◌-◌,
  ◌<◌,
  ◌&&◌,
  ◌==◌,
  nat_le,
  nat_lt,
  if◌then◌else◌,
  List,
  [],
  ◌∷◌,
  map,
  take,
  length,
  slice_index_or,
  slice_set,
  Option,
  Some,
  None,
  is_none,
  is_some,
  unwrap_or,
  option_and_then,
  Result,
  Ok,
}
use Rattle.std.specs.List.{range_with_len}
use Rattle.std.specs.Option.{ok_or, option_map}
use Rattle.bp_types.specs.declared.limits.TheConstants.{MOST_ROOMS}
use Rattle.toml.specs.Data.{Data, Members, Items, no_items, item, get, as_str, as_integer, as_array}
use Rattle.bp_hotelfile.specs.declared.key.Key.TheVariants as key
use Rattle.bp_hotelfile.specs.declared.error.HotelRefusal.{HotelRefusal}
use Rattle.bp_hotelfile.specs.declared.error.HotelRefusal.TheVariants.{Kind, NightShape, NightOutside, TwiceNight}
use Rattle.bp_hotelfile.specs.declared.nights.NightTable.{NightTable}
use Rattle.bp_hotelfile.specs.Steps.{first_below}
use Rattle.bp_hotelfile.specs.Numbers.{within}
use Rattle.bp_hotelfile.specs.Dates.{day_of}
use Rattle.bp_hotelfile.specs.Settings.{value_at}

-- a day and its rooms, where both are there
abbrev pub both : Option ℕ → Option ℕ → Option NightTable
both None rooms = None
both (Some day) None = None
both (Some day) (Some rooms) = Some (record { day = day; rooms = rooms })

-- the date under `date`, as a day number
abbrev pub day_under : Data → Option ℕ
day_under d = option_and_then day_of (option_and_then as_str (get (codes "date") d))

-- the number of rooms under `rooms`
abbrev pub rooms_under : Data → Option ℕ
rooms_under d = option_and_then (within 0 MOST_ROOMS) (option_and_then as_integer (get (codes "rooms") d))

-- a table with a date and a number of rooms
abbrev pub night_table : Data → Option NightTable
night_table d = both (day_under d) (rooms_under d)

-- each item, read as such a table
abbrev pub night_tables : Items → List (Option NightTable)
night_tables no_items = []
night_tables (item d ds) = night_table d ∷ night_tables ds

-- the tables under `night`: none where the key is absent
abbrev pub tables_in : Option Data → Result (List (Option NightTable)) HotelRefusal
tables_in None = Ok []
tables_in (Some d) = ok_or (option_map night_tables (as_array d)) (Kind key.Night)

-- the tables of nights of a file, in its order
abbrev pub tables_at : Members → Result (List (Option NightTable)) HotelRefusal
tables_at tree = tables_in (value_at key.Night tree)

-- the night of a day, where it is one of the nights
abbrev pub night_on : ℕ → ℕ → ℕ → Option ℕ
night_on first nights day = if nat_le first day && nat_lt (day - first) nights then Some (day - first) else None

-- the rooms that the first table of a day gives it, if one does
abbrev pub own_rooms : List (Option NightTable) → ℕ → Option ℕ
own_rooms [] day = None
own_rooms (None ∷ ts) day = own_rooms ts day
own_rooms (Some t ∷ ts) day = if t.day == day then Some t.rooms else own_rooms ts day

-- what is wrong with the table of an index, after the earlier ones: its form, its day, or an earlier one of its day
abbrev pub wrong_with : ℕ → ℕ → ℕ → List (Option NightTable) → Option NightTable → Option HotelRefusal
wrong_with first nights index earlier None = Some (NightShape index)
wrong_with first nights index earlier (Some t) =
    if is_none (night_on first nights t.day) then Some (NightOutside index)
    else if is_some (own_rooms earlier t.day) then Some (TwiceNight index)
    else None

-- what is wrong with the table at a place of the list
abbrev pub wrong_at : ℕ → ℕ → List (Option NightTable) → ℕ → Option HotelRefusal
wrong_at first nights tables index =
    wrong_with first nights index (take index tables) (slice_index_or tables index None)

-- the first table that is refused
abbrev pub refused_table : ℕ → ℕ → List (Option NightTable) → Option HotelRefusal
refused_table first nights tables = first_below (wrong_at first nights tables) (length tables)

-- the rooms of each night: those of its table, and else the hotel's
abbrev pub rooms_by_night : ℕ → ℕ → ℕ → List (Option NightTable) → List ℕ
rooms_by_night first nights rooms tables =
    map (λ n. unwrap_or (own_rooms tables (first + n)) rooms) (range_with_len 0 nights)

-- what is wrong with a table, by the rooms that the earlier ones gave to each night
abbrev pub wrong_by_night : ℕ → ℕ → List (Option ℕ) → Option ℕ → Option HotelRefusal
wrong_by_night first index own None = Some (NightOutside index)
wrong_by_night first index own (Some n) = if is_some (slice_index_or own n None) then Some (TwiceNight index) else None

-- the same of a table whose form is looked at first
abbrev pub wrong_by_rooms : ℕ → ℕ → List (Option ℕ) → Option NightTable → Option HotelRefusal
wrong_by_rooms first index own None = Some (NightShape index)
wrong_by_rooms first index own (Some t) = wrong_by_night first index own (night_on first (length own) t.day)

-- the table's rooms are put at its night, which had none
pub record Places (first : ℕ) (old : List (Option ℕ)) (table : Option NightTable) (new : List (Option ℕ)) : Type 0 where
  pub night : ℕ
  pub rooms : ℕ
  pub table_is : table ≡ Some (record { day = first + night; rooms = rooms })
  pub in_range : night < length old
  pub free : slice_index_or old night None ≡ None
  pub put : new ≡ slice_set old night (Some rooms)
