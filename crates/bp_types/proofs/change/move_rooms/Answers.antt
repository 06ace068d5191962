use Rattle.std.proofs.Common.{◌≡◌, arith}
use Rattle.bp_types.proofs.RoomLemmas.{moved_by_all}
use Rattle.bp_types.proofs.change.move_rooms.Goals as goal

pub returns : goal.returns
returns c =
    let last : c.loop-night.night ≡ c.args.span.to = omega arith in
    moved_by_all _ _ _ _ _ c.loop-night.auto.rooms
    (λ k h. c.loop-night.invariant.done k (omega arith))
    (λ k h. c.loop-night.invariant.left k (omega arith))
