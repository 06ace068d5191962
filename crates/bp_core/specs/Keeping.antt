-- What a book keeps beside its history, each part as the history says.
use Rattle.std.specs.Prelude.{◌≡◌, ℕ, ◌+◌, ◌<◌, Bool, true, false, List, length, map, count_by, slice_get, Some}
use Rattle.std.specs.List.{list_any, range_with_len}
use Rattle.bp_types.specs.House.{Inn, IsHouse}
use Rattle.bp_types.specs.declared.limits.TheConstants.{CALLERS}
use Rattle.bp_ledger.specs.Inventory.{Inventory}
use Rattle.bp_core.specs.declared.line.Line.{Line}
use Rattle.bp_core.specs.declared.roll.Standing.{Standing}
use Rattle.bp_core.specs.declared.roll.Standing.TheVariants.{New, Present, Gone}
use Rattle.bp_core.specs.declared.roll.Booking.{Booking}
use Rattle.bp_core.specs.declared.roll.Fate.{Fate}
use Rattle.bp_core.specs.declared.roll.Fate.TheVariants.{Held, Refused, GivenUp}
use Rattle.bp_core.specs.Lines.{History, is_book_by, is_accepted, is_cancellation, nth_book, booked_stay}
use Rattle.bp_core.specs.Callers.{has_enrolled, has_left}
use Rattle.bp_core.specs.Instance.{rooms_at, sold_at, forecast_of, rate_of}
use Rattle.bp_core.specs.Changes.{deltas_at}
use Rattle.bp_core.specs.Legal.{IsLegal}
use Rattle.bp_core.specs.Log.{LogView}
use Rattle.bp_core.specs.Roll.{RollView, standing_of, bookings_of}

-- the numbers of the nights, or of the stays
abbrev pub numbers : ℕ → List ℕ
numbers n = range_with_len 0 n

-- the rooms and the sold rooms of each night after a history
abbrev pub inventory_of : Inn → History → Inventory
inventory_of h H = record { rooms = map (rooms_at h H) (numbers (length h.rooms)); sold = map (sold_at h H) (numbers (length h.rooms)) }

-- a standing by what a caller has done
abbrev pub standing_by : Bool → Bool → Standing
standing_by false false = New
standing_by true false = Present
standing_by false true = Gone
standing_by true true = Gone

-- what became of a booking call
abbrev pub fate_by : Bool → Bool → Fate
fate_by false given_up = Refused
fate_by true false = Held
fate_by true true = GivenUp

-- the nth booking call of a caller is kept as this
pub record IsBookingOf (H : History) (caller nth : ℕ) (b : Booking) : Type 0 where
  pub line : Line
  pub is_nth : nth_book H caller nth ≡ Some line
  pub stay : booked_stay line.entry.act ≡ Some b.stay
  pub fate : b.fate ≡ fate_by (is_accepted line.entry.reply) (list_any (is_cancellation caller nth) H)

-- the booking calls of a caller
pub record AreBookingsOf (H : History) (caller : ℕ) (bs : List Booking) : Type 0 where
  pub as_many : length bs ≡ count_by (is_book_by caller) H
  pub each : (k : ℕ) (b : Booking) → slice_get bs k ≡ Some b → IsBookingOf H caller (k + 1) b

-- there is room for every entry that may come: the commands, the vectors, and two of each caller
abbrev pub entry_room : Inn → ℕ
entry_room h = h.limits.entries + h.limits.publications + 130

-- each part of a book as its history says
pub record AreInStep (h : Inn) (log : LogView) (roll : RollView) (inventory : Inventory) (forecasts rates : List ℕ) : Type 0 where
  pub house : IsHouse h
  pub legal : IsLegal h log.lines
  pub fed : log.deltas ≡ map (deltas_at h log.lines) (numbers (length log.lines))
  pub line_room : log.line_room ≡ entry_room h
  pub board_room : log.board_room ≡ h.limits.publications
  pub roll_room : roll.room ≡ h.limits.entries
  pub each_standing : length roll.standings ≡ CALLERS
  pub each_caller : length roll.bookings ≡ CALLERS
  pub standings : (caller : ℕ) → caller < CALLERS → standing_of roll caller ≡ standing_by (has_enrolled log.lines caller) (has_left log.lines caller)
  pub bookings : (caller : ℕ) → caller < CALLERS → AreBookingsOf log.lines caller (bookings_of roll caller)
  pub stock : inventory ≡ inventory_of h log.lines
  pub forecasts_are : forecasts ≡ map (forecast_of h log.lines) (numbers (length h.stays))
  pub rates_are : rates ≡ map (rate_of h log.lines) (numbers (length h.stays))
