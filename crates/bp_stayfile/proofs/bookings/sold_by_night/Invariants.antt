use Rattle.std.proofs.Common.{◌≡◌, ℕ, ◌*◌, ◌<◌, ◌≤◌, length, slice_index}
use Rattle.bp_types.specs.declared.limits.TheConstants.{MOST_FORECAST}
use Rattle.bp_stayfile.specs.LaidOut.{sold_at}
use Rattle.bp_stayfile.proofs.bookings.sold_by_night.Given as goal

-- the stays before this one are sold
abbrev pub invariant-loop-stay : goal.invariant-loop-stay
invariant-loop-stay l = record {
  size : length l.sold.items ≡ l.nights;
  each : (n : ℕ) → n < l.nights → slice_index l.sold.items n ≡ sold_at l.counts l.stays l.stay n;
  small : (n : ℕ) → n < l.nights → slice_index l.sold.items n ≤ MOST_FORECAST * l.stay;
}
