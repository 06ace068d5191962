use Rattle.std.proofs.Common.{arith}
use Rattle.std.proofs.lemmas.List.{take_more}
use Rattle.bp_types.specs.Program.{no_stay}
use Rattle.bp_problem_house.proofs.house.stays_of.Goals as goal

pub loop-stay-preserved : goal.loop-stay-preserved
loop-stay-preserved c =
    let next = take_more c.args.problem.now.stays c.loop-stay.stay no_stay (omega arith) in
    rw (next, ← c.loop-stay.invariant, ← c.stay.ensures) c.in_ok-push.ensures.items
