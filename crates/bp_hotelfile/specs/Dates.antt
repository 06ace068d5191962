-- Dates in text, and their day numbers.
use Rattle.std.specs.Prelude.{ℕ, Bool, ◌&&◌, ◌==◌, if◌then◌else◌, pos, ◌+ℤ◌, unsigned_abs, List, length, slice_index, slice_range, Option, Some, None}
use Rattle.std.specs.Str.{all_ascii_digits}
use Rattle.jiff_core.specs.Calendar.{days_from_civil, days_in_month}
use Rattle.bp_hotelfile.specs.Numbers.{number, is_between}

-- four digits, a dash, two digits, a dash, two digits
abbrev pub has_date_form : List ℕ → Bool
has_date_form t =
    (length t == 10) && (slice_index t 4 == 45) && (slice_index t 7 == 45)
    && all_ascii_digits (slice_range t 0 4) && all_ascii_digits (slice_range t 5 7) && all_ascii_digits (slice_range t 8 10)

-- the civil calendar has this day, in a year from 1 to 9999
abbrev pub is_civil_day : ℕ → ℕ → ℕ → Bool
is_civil_day y m d =
    is_between 1 9999 y && is_between 1 12 m && is_between 1 (days_in_month (pos y) m) d

-- the day number of a date: how many days it is after -9999-01-01, the first day of the calendar's library
abbrev pub day_number : ℕ → ℕ → ℕ → ℕ
day_number y m d = unsigned_abs (days_from_civil (pos y) m d +ℤ pos 4_371_587)

-- the day number of these parts, where they are a date
abbrev pub day_of_parts : ℕ → ℕ → ℕ → Option ℕ
day_of_parts y m d = if is_civil_day y m d then Some (day_number y m d) else None

-- the day number of a text, where it is a date
abbrev pub day_of : List ℕ → Option ℕ
day_of t =
    if has_date_form t then day_of_parts (number (slice_range t 0 4)) (number (slice_range t 5 7)) (number (slice_range t 8 10))
    else None

-- the day number of 0001-01-01
abbrev pub first_day : ℕ
first_day = 3_652_425
