use Rattle.std.proofs.Common.{◌≡◌, ◌≤◌, [], map, replicate, vec_capacity, All, Vec, Global}
use Rattle.bp_core.specs.declared.roll.Standing.TheVariants.{New}
use Rattle.bp_core.specs.declared.roll.Booking.{Booking}
use Rattle.bp_core.proofs.RollLemmas.{items_of}
use Rattle.bp_core.proofs.roll.Roll.new.Given as goal

-- so many callers have no booking, and room for theirs
abbrev pub invariant-loop : goal.invariant-loop
invariant-loop l = record {
  all_new : l.standings.items ≡ replicate l.counter New;
  empty : map items_of l.bookings.items ≡ replicate l.counter [];
  room : All (λ (v : Vec Booking Global). l.room ≤ vec_capacity v) l.bookings.items;
}
