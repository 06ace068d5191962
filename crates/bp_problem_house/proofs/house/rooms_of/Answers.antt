use Rattle.std.proofs.Common.{arith}
use Rattle.std.proofs.lemmas.List.{take_more}
use Rattle.bp_problem_house.proofs.house.rooms_of.Goals as goal

pub loop-night-preserved : goal.loop-night-preserved
loop-night-preserved c =
    let next = take_more c.args.problem.now.rooms c.loop-night.night 0 (omega arith) in
    rw (next, ← c.loop-night.invariant, ← c.rooms.ensures) c.in_ok-push.ensures.items
