use Rattle.std.proofs.Common.{rules}
use Rattle.bp_desk.proofs.Standing.{gone}
use Rattle.bp_desk.proofs.desk.Desk.leave.Goals as goal

pub invariant_of-result : goal.invariant_of-result
invariant_of-result g c =
    gone c.pass.inside.seat c.make-answer.new.seat c.pass.inside.caller c.pass.inside.next c.pass.inside.newest c.make-answer.new.newest c.make-answer.result
    c.pass.invariant (search rules)
    c.make-answer.ensures.called c.make-answer.ensures.idle c.make-answer.ensures.newest
