use Rattle.std.proofs.Common.{◌≡◌, ℕ, ◌+◌, ◌<◌, [], length, get_or, Some}
use Rattle.bp_hotelfile.specs.Dates.{day_of}
use Rattle.bp_report.proofs.dates.dates_of.Given as goal

-- the nights before this one have their dates
abbrev pub invariant-loop-night : goal.invariant-loop-night
invariant-loop-night l = record {
  size : length l.dates ≡ 400;
  dates : (n : ℕ) → n < l.night → day_of (get_or l.dates n []) ≡ Some (l.hotel.first + n);
}
