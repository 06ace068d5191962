use Rattle.std.proofs.Common.{◌≡◌, false}
use Rattle.bp_turn.proofs.tests.add_hundred.Given as goal

abbrev pub invariant-loop-number : goal.invariant-loop-number
invariant-loop-number g l = (l.seat.lock ≡ l.turn) × (l.seat.has_turn ≡ false) × (l.seat.number ≡ l.caller)
