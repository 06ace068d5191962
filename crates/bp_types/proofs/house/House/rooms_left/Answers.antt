use Rattle.std.proofs.Common.{arith}
use Rattle.std.proofs.lemmas.List.FromFn.{map-range_with_len_more}
use Rattle.bp_types.specs.House.{units_left}
use Rattle.bp_types.proofs.house.House.rooms_left.Goals as goal

pub loop-night-preserved : goal.loop-night-preserved
loop-night-preserved c =
    let next = map-range_with_len_more (units_left c.args.self.now) 0 c.loop-night.night c.loop-night.night (omega arith) in
    rw (next, ← c.loop-night.invariant, ← c.units_left.ensures) c.in_ok-push.ensures.items
