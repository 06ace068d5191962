use Rattle.std.proofs.Common.{◌≡◌}
use Rattle.bp_residual.proofs.SetTo.{RoomsSoFar}
use Rattle.bp_residual.proofs.alike.set_all_rooms.Given as goal

abbrev pub invariant-loop-night : goal.invariant-loop-night
invariant-loop-night l = RoomsSoFar l.instance.rooms l.other.rooms l.night × (l.instance.stays ≡ l.fn.instance.stays)
