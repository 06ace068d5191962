-- What is kept of each caller: its standing, and its bookings in order.
use Rattle.std.specs.Prelude.{ℕ, Bool, true, false, List, [], slice_set, slice_index_or, Option, Some, None}
use Rattle.bp_core.specs.declared.roll.Standing.{Standing}
use Rattle.bp_core.specs.declared.roll.Standing.TheVariants.{New, Present, Gone}
use Rattle.bp_core.specs.declared.roll.Booking.{Booking}
use Rattle.bp_core.specs.declared.roll.Fate.{Fate}
use Rattle.bp_core.specs.declared.roll.Fate.TheVariants.{GivenUp}

-- the callers by number, and for how many bookings of each there is room
pub record RollView : Type 0 where
  pub standings : List Standing
  pub bookings : List (List Booking)
  pub room : ℕ

-- the standing of a caller
abbrev pub standing_of : RollView → ℕ → Standing
standing_of k caller = slice_index_or k.standings caller New

-- the bookings of a caller
abbrev pub bookings_of : RollView → ℕ → List Booking
bookings_of k caller = slice_index_or k.bookings caller []

-- the callers with one of another standing
abbrev pub with_standing : RollView → ℕ → Standing → RollView
with_standing k caller standing = record k { standings = slice_set k.standings caller standing }

-- the callers with other bookings of one
abbrev pub with_bookings : RollView → ℕ → List Booking → RollView
with_bookings k caller bookings = record k { bookings = slice_set k.bookings caller bookings }

-- the caller has no entry yet
abbrev pub is_new : Standing → Bool
is_new New = true
is_new Present = false
is_new Gone = false

-- the caller has enrolled and not left
abbrev pub is_present : Standing → Bool
is_present New = false
is_present Present = true
is_present Gone = false

-- the caller has left
abbrev pub is_gone : Standing → Bool
is_gone New = false
is_gone Present = false
is_gone Gone = true

-- a booking that is given up
abbrev pub is_over : Fate → Bool
is_over GivenUp = true
is_over _ = false

-- the booking, if there is one, is given up
abbrev pub was_given_up : Option Booking → Bool
was_given_up None = false
was_given_up (Some b) = is_over b.fate
