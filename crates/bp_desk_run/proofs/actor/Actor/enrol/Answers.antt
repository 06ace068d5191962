use Rattle.std.proofs.Common.{rules, refl, ◌≡◌, Some, ap, sym, subst, ◌∙◌}
use Rattle.bp_desk_run.specs.Actors.{IsReady, HasEnrolled}
use Rattle.bp_desk_run.proofs.Enrolling.{IsMet, met, enrolled_ready}
use Rattle.bp_desk_run.proofs.actor.Actor.enrol.Goals as goal

pub returns-clause-opener : goal.returns-clause-opener
returns-clause-opener g c =
    let e = c.in-Ok.ensures.enrolled in
    let m : IsMet c.args.number c.args.opener.now c.meet.new.pass c.in-Ok.pass c.meet.new.other =
    met c.args.number c.args.opener.now c.enrol.new.pass c.meet.new.pass c.in-Ok.pass c.meet.new.other e.0 c.requires.number.1 c.requires.free e.1 e.2 e.3
    c.meet.ensures.pass c.meet.ensures.other in
    m.opener

pub returns-clause-ready : goal.returns-clause-ready
returns-clause-ready g c =
    let e = c.in-Ok.ensures.enrolled in
    let m : IsMet c.args.number c.args.opener.now c.meet.new.pass c.in-Ok.pass c.meet.new.other =
    met c.args.number c.args.opener.now c.enrol.new.pass c.meet.new.pass c.in-Ok.pass c.meet.new.other e.0 c.requires.number.1 c.requires.free e.1 e.2 e.3
    c.meet.ensures.pass c.meet.ensures.other in
    enrolled_ready c.args.desk.now c.args.sessions c.args.number c.args.opener.now c.meet.new.pass c.in-Ok.pass c.meet.new.other
    c.args.solver.now.flow.program c.in_ok-optimiser.optimiser _ c.requires.desk c.requires.number.0 c.facts.ensures.legal m e.3 c.in-Ok.ensures.calls
    c.in_ok-optimiser.ensures c.requires.solver.0 refl refl c.requires.range c.requires.workers
