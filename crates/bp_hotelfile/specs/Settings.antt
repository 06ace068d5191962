-- What stands under the keys, in their order.
use Rattle.std.specs.Prelude.{ℕ, ◌+◌, nat_le, if◌then◌else◌, List, Option, Some, None, Result, Ok, Err}
use Rattle.std.specs.Option.{ok_or}
use Rattle.toml.specs.Data.{Data, Members, get_member, as_str, as_integer}
use Rattle.bp_types.specs.declared.command.Limits.{Limits}
use Rattle.bp_types.specs.declared.limits.TheConstants.{MOST_NIGHTS, MOST_ROOMS, MOST_STALE_AFTER, MOST_ENTRIES, MOST_PUBLICATIONS, HUNDREDTHS}
use Rattle.bp_types.specs.House.{is_unit}
use Rattle.bp_hotelfile.specs.declared.date.TheConstants.{LAST_DAY}
use Rattle.bp_hotelfile.specs.declared.settings.TheConstants.{STALE_AFTER}
use Rattle.bp_hotelfile.specs.declared.key.Key.{Key}
use Rattle.bp_hotelfile.specs.declared.key.Key.TheVariants as key
use Rattle.bp_hotelfile.specs.declared.error.HotelRefusal.{HotelRefusal}
use Rattle.bp_hotelfile.specs.declared.error.HotelRefusal.TheVariants.{Missing, Kind, Date, Range}
use Rattle.bp_hotelfile.specs.declared.settings.Settings.{Settings}
use Rattle.bp_hotelfile.specs.Steps.{◌>>=◌}
use Rattle.bp_hotelfile.specs.Numbers.{within}
use Rattle.bp_hotelfile.specs.Dates.{day_of}
use Rattle.bp_hotelfile.specs.Keys.{key_text}

-- what stands under a key
abbrev pub value_at : Key → Members → Option Data
value_at k tree = get_member (key_text k) tree

-- the same, of a key that must be there
abbrev pub required : Key → Members → Result Data HotelRefusal
required k tree = ok_or (value_at k tree) (Missing k)

-- a text under a key
abbrev pub text_at : Key → Members → Result (List ℕ) HotelRefusal
text_at k tree = required k tree >>= (λ d. ok_or (as_str d) (Kind k))

-- the day number of a date under a key
abbrev pub day_at : Key → Members → Result ℕ HotelRefusal
day_at k tree = text_at k tree >>= (λ text. ok_or (day_of text) (Date k))

-- a whole number from least to most
abbrev pub number_in : Key → ℕ → ℕ → Data → Result ℕ HotelRefusal
number_in k least most d = ok_or (as_integer d) (Kind k) >>= (λ z. ok_or (within least most z) (Range k))

-- the number under a key that must be there
abbrev pub number_at : Key → ℕ → ℕ → Members → Result ℕ HotelRefusal
number_at k least most tree = required k tree >>= number_in k least most

-- what is read under a key, and a number of its own where the key is absent
abbrev pub or_else : ℕ → (Data → Result ℕ HotelRefusal) → Option Data → Result ℕ HotelRefusal
or_else absent read None = Ok absent
or_else absent read (Some d) = read d

-- the number under a key that may be absent
abbrev pub number_or : ℕ → Key → ℕ → ℕ → Members → Result ℕ HotelRefusal
number_or absent k least most tree = or_else absent (number_in k least most) (value_at k tree)

-- a unit: 1, or a hundred
abbrev pub unit_in : Data → Result ℕ HotelRefusal
unit_in d = number_in key.Unit 1 HUNDREDTHS d >>= (λ u. if is_unit u then Ok u else Err (Range key.Unit))

-- the unit, 1 where the key is absent
abbrev pub unit_at : Members → Result ℕ HotelRefusal
unit_at tree = or_else 1 unit_in (value_at key.Unit tree)

-- the first night, where the day after the last night is not past 9999-12-31
abbrev pub first_with : ℕ → ℕ → Result ℕ HotelRefusal
first_with first nights = if nat_le (first + nights) LAST_DAY then Ok first else Err (Range key.FirstNight)

-- the limits of the desk
abbrev pub limits_of : Members → Result Limits HotelRefusal
limits_of tree =
    number_or STALE_AFTER key.StaleAfter 1 MOST_STALE_AFTER tree >>= (λ stale_after.
    number_or MOST_ENTRIES key.Entries 1 MOST_ENTRIES tree >>= (λ entries.
    number_or MOST_PUBLICATIONS key.Publications 1 MOST_PUBLICATIONS tree >>= (λ publications.
    unit_at tree >>= (λ unit.
    Ok (record { stale_after = stale_after; entries = entries; publications = publications; unit = unit })))))

-- all that stands under the keys before the nights' own tables
abbrev pub settings_of : Members → Result Settings HotelRefusal
settings_of tree =
    text_at key.Name tree >>= (λ _.
    day_at key.FirstNight tree >>= (λ first.
    number_at key.Nights 1 MOST_NIGHTS tree >>= (λ nights.
    first_with first nights >>= (λ first.
    number_at key.Rooms 0 MOST_ROOMS tree >>= (λ rooms.
    limits_of tree >>= (λ limits.
    Ok (record { first = first; nights = nights; rooms = rooms; limits = limits })))))))
