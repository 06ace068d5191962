use Rattle.std.proofs.Common.{arith}
use Rattle.bp_flow.specs.Solving.{priced}
use Rattle.bp_flow.proofs.Rising.{searches_within}
use Rattle.bp_flow.proofs.Cold.{cold_moved, cold_nearer, cold_repaired}
use Rattle.bp_flow.proofs.solver.Solver.fill_shortage.Goals as goal

pub returns-clause-so_far : goal.returns-clause-so_far
returns-clause-so_far g c =
    cold_moved c.args.instance.now (priced c.args.self.now) (priced c.move_rooms.new.self)
    _ c.args.night c.shortage_at-to.result.to c.shortage_at-to.result.units c.requires.so_far c.shortage_at-to.ensures.shortage c.move_rooms.ensures.program
    c.move_rooms.ensures.solved

pub returns-clause-nearer : goal.returns-clause-nearer
returns-clause-nearer g c =
    cold_nearer c.args.instance.now (priced c.args.self.now) (priced c.move_rooms.new.self)
    _ c.args.night c.shortage_at-to.result.to c.shortage_at-to.result.units c.requires.so_far.each c.shortage_at-to.ensures.shortage
    c.move_rooms.ensures.program

pub returns-clause-falls : goal.returns-clause-falls
returns-clause-falls g c =
    let repaired = cold_repaired c.args.instance.now (priced c.args.self.now) (priced c.move_rooms.new.self)
    _ c.args.night c.shortage_at-to.result.to c.shortage_at-to.result.units c.requires.so_far c.shortage_at-to.ensures.shortage
    c.shortage_at-to.ensures.whole c.move_rooms.ensures.program in
    omega (arith, repaired)

pub returns-clause-counted : goal.returns-clause-counted
returns-clause-counted g c =
    let repaired = cold_repaired c.args.instance.now (priced c.args.self.now) (priced c.move_rooms.new.self)
    _ c.args.night c.shortage_at-to.result.to c.shortage_at-to.result.units c.requires.so_far c.shortage_at-to.ensures.shortage
    c.shortage_at-to.ensures.whole c.move_rooms.ensures.program in
    searches_within c.args.steps.now c.move_rooms.new.steps c.args.self.now.served c.move_rooms.new.self.served _ _ c.move_rooms.ensures.counted
    (omega (arith, repaired))
