use Rattle.std.proofs.Common.{arith, length, sym}
use Rattle.std.proofs.lemmas.Bool.{lt-ltb}
use Rattle.bp_types.specs.House.{is_oversold}
use Rattle.bp_types.proofs.Firsts.{find-range_some, find-range_none}
use Rattle.bp_types.proofs.house.oversold_night.Goals as goal

pub returns-then-rooms-night : goal.returns-then-rooms-night
returns-then-rooms-night c =
    sym (find-range_some (is_oversold c.args.rooms.now c.args.sold.now) 0 (length c.args.rooms.now) c.loop-night.night (omega arith) (omega arith)
    (λ k h g. c.loop-night.invariant k g) (lt-ltb _ _ c.if-rooms-night.true))

pub returns : goal.returns
returns c =
    sym (find-range_none (is_oversold c.args.rooms.now c.args.sold.now) 0 (length c.args.rooms.now) (λ k h g. c.loop-night.invariant k (omega arith)))
