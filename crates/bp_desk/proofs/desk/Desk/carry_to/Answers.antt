use Rattle.std.proofs.Common.{◌≤◌, length, arith}
use Rattle.bp_desk.proofs.ReadingOn.{carried_before, read_again}
use Rattle.bp_desk.proofs.desk.Desk.carry_to.Goals as goal

pub loop-carried-preserved : goal.loop-carried-preserved
loop-carried-preserved g c =
    let start = c.args.pass.now in let before = c.loop-carried.pass in let after = c.carry_once.new.pass in let k = c.carry_once.new.carried in
    let read = c.loop-carried.invariant.2 in
    let moves = c.carry_once.ensures.moves in
    let seen = c.requires.seen in
    let within : k.position ≤ length start.seen = omega (arith, moves.1, seen) in
    (carried_before start before k read within c.carry_once.ensures.carried, moves.1, read_again start before after read c.carry_once.ensures.pass)
