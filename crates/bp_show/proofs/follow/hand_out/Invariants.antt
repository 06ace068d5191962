use Rattle.std.proofs.Common.{◌≡◌}
use Rattle.bp_show.proofs.follow.hand_out.Given as goal

abbrev pub invariant-loop-index : goal.invariant-loop-index
invariant-loop-index l = (l.place.table_id ≡ l.fn.place.table_id) × (l.place.me ≡ l.fn.place.me)
