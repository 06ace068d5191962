use Rattle.std.proofs.Common.{rules, refl, ◌≡◌, Some}
use Rattle.bp_desk_run.proofs.Enrolling.{has_joined, is_ended, still_ended}
use Rattle.bp_desk_run.proofs.actor.Actor.join.Goals as goal

pub returns-clause-opener : goal.returns-clause-opener
returns-clause-opener c = has_joined c.args.opener.now c.join.new.pass c.in-Some.left c.join.ensures.begins.0 c.join.ensures.pass

pub returns-clause-ended : goal.returns-clause-ended
returns-clause-ended c house sessions number r =
    is_ended c.args.desk.now house sessions number c.args.opener.now c.join.new.pass c.in-Some.left c.args.self.now r (search rules)
    c.join.ensures.begins.1 c.join.ensures.pass

pub returns-clause-others : goal.returns-clause-others
returns-clause-others c house sessions number cs stop e =
    still_ended house sessions number cs stop c.args.opener.now c.join.new.pass c.in-Some.left c.join.ensures.begins.0 c.join.ensures.pass e
