use Rattle.std.proofs.Common.{◌≡◌}
use Rattle.bp_residual.proofs.SetTo.{StaysSoFar}
use Rattle.bp_residual.proofs.alike.set_stays.Given as goal

abbrev pub invariant-loop-stay : goal.invariant-loop-stay
invariant-loop-stay l = StaysSoFar l.instance l.other l.stay × (l.instance.rooms ≡ l.fn.instance.rooms)
