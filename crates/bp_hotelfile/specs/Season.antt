-- What a hotel file says, as contracts see it.
use Rattle.std.specs.Prelude.{ℕ, ◌+◌, ◌≤◌, IsTrue, if◌then◌else◌, List, length, All, Option, Some, None, Result, Ok, Err}
use Rattle.std.specs.Str.{is_utf8}
use Rattle.std.specs.Option.{ok_or}
use Rattle.toml.specs.Data.{Members}
use Rattle.toml.specs.Parse.{parse_document}
use Rattle.bp_types.specs.declared.command.Limits.{Limits}
use Rattle.bp_types.specs.declared.limits.TheConstants.{MOST_NIGHTS, MOST_ROOMS, MOST_STALE_AFTER, MOST_ENTRIES, MOST_PUBLICATIONS}
use Rattle.bp_types.specs.House.{is_from_one, is_unit}
use Rattle.bp_hotelfile.specs.declared.date.TheConstants.{LAST_DAY}
use Rattle.bp_hotelfile.specs.declared.error.HotelRefusal.{HotelRefusal}
use Rattle.bp_hotelfile.specs.declared.error.HotelRefusal.TheVariants.{NotToml}
use Rattle.bp_hotelfile.specs.declared.error.DateError.{DateError}
use Rattle.bp_hotelfile.specs.declared.error.DateError.TheVariants.{NotADate, Outside}
use Rattle.bp_hotelfile.specs.declared.nights.NightTable.{NightTable}
use Rattle.bp_hotelfile.specs.declared.settings.Settings.{Settings}
use Rattle.bp_hotelfile.specs.Steps.{◌>>=◌}
use Rattle.bp_hotelfile.specs.Dates.{day_of, first_day}
use Rattle.bp_hotelfile.specs.Settings.{settings_of}
use Rattle.bp_hotelfile.specs.Nights.{tables_at, night_on, refused_table, rooms_by_night}

-- the first night's day number, the rooms of each night, and the limits of the desk
pub record Season : Type 0 where
  pub first : ℕ
  pub rooms : List ℕ
  pub limits : Limits

-- the tree of a file: its bytes are UTF-8, and the text is TOML
abbrev pub tree_of : List ℕ → Result Members HotelRefusal
tree_of bytes = ok_or (if is_utf8 bytes then parse_document bytes else None) NotToml

-- the season of settings and of tables with rooms of their own
abbrev pub season_with : Settings → List (Option NightTable) → Season
season_with s tables =
    record { first = s.first; rooms = rooms_by_night s.first s.nights s.rooms tables; limits = s.limits }

-- the season, unless a table is refused
abbrev pub unless_refused : Option HotelRefusal → Season → Result Season HotelRefusal
unless_refused None season = Ok season
unless_refused (Some e) season = Err e

-- the season of a hotel file, or its first refusal
abbrev pub season_of : List ℕ → Result Season HotelRefusal
season_of bytes =
    tree_of bytes >>= (λ tree.
    settings_of tree >>= (λ s.
    tables_at tree >>= (λ tables.
    unless_refused (refused_table s.first s.nights tables) (season_with s tables))))

-- the night that a text names
abbrev pub night_of : Season → List ℕ → Result ℕ DateError
night_of season text =
    ok_or (day_of text) NotADate >>= (λ day. ok_or (night_on season.first (length season.rooms) day) Outside)

-- every value is within its limit
pub record IsSeason (s : Season) : Type 0 where
  pub some_night : 1 ≤ length s.rooms
  pub nights : length s.rooms ≤ MOST_NIGHTS
  pub rooms : All (λ r. r ≤ MOST_ROOMS) s.rooms
  pub from : first_day ≤ s.first
  pub to : s.first + length s.rooms ≤ LAST_DAY
  pub stale_after : IsTrue (is_from_one MOST_STALE_AFTER s.limits.stale_after)
  pub entries : IsTrue (is_from_one MOST_ENTRIES s.limits.entries)
  pub publications : IsTrue (is_from_one MOST_PUBLICATIONS s.limits.publications)
  pub unit : IsTrue (is_unit s.limits.unit)
