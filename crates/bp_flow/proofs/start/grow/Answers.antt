use Rattle.std.proofs.Common.{◌≤◌, zero, suc, arith, rules}
use Rattle.bp_types.specs.declared.stay.Span.{Span}
use Rattle.bp_flow.proofs.Carrying.{arc_span, grown_takes, grown}
use Rattle.bp_flow.proofs.start.grow.Goals as goal

pub push-requires-clause-takes : goal.push-requires-clause-takes
push-requires-clause-takes c zero d h =
    let s : Span = record { from = c.tail.result; to = c.head.result } in
    let range = arc_span c.args.flow.now.flow.program c.args.arc c.nights-nights.ensures.priced.limits c.requires.arc in
    grown_takes c.args.flow.now c.move_rooms.new.self c.args.arc c.args.units s c.nights-nights.ensures.priced c.nights-moved.ensures.priced
    c.requires.carrying.balanced c.requires.arc (omega (arith, range.0, c.tail.ensures, c.head.ensures)) (search rules)
    (omega (arith, c.if-units-room.true, c.room.ensures)) c.move_rooms.ensures
push-requires-clause-takes c (suc k) d h = absurd (omega arith)

pub returns-then-takes_units : goal.returns-then-takes_units
returns-then-takes_units c =
    let s : Span = record { from = c.tail.result; to = c.head.result } in
    let range = arc_span c.args.flow.now.flow.program c.args.arc c.nights-nights.ensures.priced.limits c.requires.arc in
    let ordered : s.from ≤ s.to = omega (arith, range.0, c.tail.ensures, c.head.ensures) in
    let takes = grown_takes c.args.flow.now c.move_rooms.new.self c.args.arc c.args.units s c.nights-nights.ensures.priced c.nights-moved.ensures.priced
    c.requires.carrying.balanced c.requires.arc ordered (search rules) (omega (arith, c.if-units-room.true, c.room.ensures)) c.move_rooms.ensures in
    grown c.args.instance.now c.args.flow.now c.move_rooms.new.self c.push.new.self c.args.arc c.args.units s c.nights-moved.ensures.priced
    c.requires.carrying c.tail.ensures c.head.ensures ordered c.move_rooms.ensures takes c.push.ensures.flow
