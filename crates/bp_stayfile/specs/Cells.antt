-- The tests of a record's fields.
use Rattle.std.specs.Prelude.{ℕ, ◌+◌, ◌&&◌, nat_lt, nat_le, if◌then◌else◌, List, Result, Ok, Err}
use Rattle.std.specs.Option.{ok_or}
use Rattle.bp_types.specs.declared.stay.Span.{Span}
use Rattle.bp_hotelfile.specs.declared.error.DateError.{DateError}
use Rattle.bp_hotelfile.specs.declared.error.DateError.TheVariants.{NotADate, Outside as NoNight}
use Rattle.bp_types.specs.declared.limits.TheConstants.{MOST_STAYS}
use Rattle.bp_types.specs.Limits.{is_rate}
use Rattle.bp_stayfile.specs.declared.error.TableRefusal.{TableRefusal}
use Rattle.bp_stayfile.specs.declared.error.TableRefusal.TheVariants.{Code, Date, Number, Limit, Outside}
use Rattle.bp_stayfile.specs.Fields.{number_of, is_code}

-- a code
abbrev pub code_in : ℕ → List ℕ → Result (Unit {0}) TableRefusal
code_in line t = if is_code t then Ok tt else Err (Code line)

-- a number
abbrev pub number_in : ℕ → List ℕ → Result ℕ TableRefusal
number_in line t = ok_or (number_of t) (Number line)

-- a date, whether or not it is one of the nights
abbrev pub date_in : ℕ → Result ℕ DateError → Result (Unit {0}) TableRefusal
date_in line (Ok night) = Ok tt
date_in line (Err NotADate) = Err (Date line)
date_in line (Err NoNight) = Ok tt

-- the span of so many nights from an arrival, within the nights of the hotel
abbrev pub span_in : ℕ → ℕ → Result ℕ DateError → ℕ → Result Span TableRefusal
span_in line total (Ok from) nights =
    if nat_le (from + nights) total then Ok (record { from = from; to = from + nights }) else Err (Outside line)
span_in line total (Err e) nights = Err (Outside line)

-- one night at least, a rate in range, and room for a stay more
abbrev pub limits_in : ℕ → ℕ → ℕ → ℕ → Result (Unit {0}) TableRefusal
limits_in line before nights rate =
    if nat_le 1 nights && is_rate rate && nat_lt before MOST_STAYS then Ok tt else Err (Limit line)
