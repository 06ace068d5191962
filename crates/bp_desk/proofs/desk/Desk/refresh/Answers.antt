use Rattle.bp_desk.proofs.Standing.{pass_reads}
use Rattle.bp_desk.proofs.desk.Desk.refresh.Goals as goal

pub invariant_of-pass : goal.invariant_of-pass
invariant_of-pass g c =
    pass_reads c.pass.inside.seat c.take-shared.new.seat c.give.new.seat c.take-shared.result c.pass.inside.caller c.pass.inside.next c.pass.inside.newest
    c.give.new.newest c.pass.invariant
    c.take-shared.ensures c.give.ensures.seat c.give.ensures.newest
