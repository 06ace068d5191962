use Rattle.std.proofs.Common.{◌≡◌, length}
use Rattle.bp_report.specs.Tallies.{tallies_of, booked_of}
use Rattle.bp_report.proofs.counting.tallies_of.Given as goal

-- the places before this one are counted
abbrev pub invariant-loop-place : goal.invariant-loop-place
invariant-loop-place l = record {
  booked : l.booked ≡ booked_of l.book.history l.place;
  tallies : l.tallies.items ≡ tallies_of l.book.history (length l.book.house.stays) l.place;
}
