use Rattle.std.proofs.Common.{◌≡◌, ℕ, ◌<◌, false}
use Rattle.bp_types.specs.House.{is_oversold}
use Rattle.bp_stayfile.proofs.bookings.overbooked.Given as goal

-- no night before this one is oversold
abbrev pub invariant-loop-night : goal.invariant-loop-night
invariant-loop-night l = (k : ℕ) → k < l.night → is_oversold l.hotel.rooms l.sold k ≡ false
