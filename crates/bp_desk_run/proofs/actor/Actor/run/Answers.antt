use Rattle.std.proofs.Common.{rules, refl, ◌≡◌, ◌≤◌, ◌<◌, Some, arith, sym, subst}
use Rattle.bp_optimise.specs.Sessions.{IsSession}
use Rattle.bp_desk_run.specs.Endings.{IsEnd}
use Rattle.bp_desk_run.proofs.Running.{session_ends, work_ends}
use Rattle.bp_desk_run.proofs.actor.Actor.run.Goals as goal

pub returns-then-caller-sessions-clause-run : goal.returns-then-caller-sessions-clause-run
returns-then-caller-sessions-clause-run g c house number seen r t =
    let e = c.counted_session-left.result in
    let p = c.in-Some.pass in
    let low : p.caller ≤ c.args.sessions = (let a = c.if-caller-sessions.true in let b = c.caller.ensures in omega (arith, a, b)) in
    let end = session_ends c.args.desk.now house c.args.sessions number seen c.args.self.now p e.left e.done e.stop c.args.lead r (search rules) low t.lead_is
    (subst (λ cs. IsSession c.args.lead cs p e.left e.done e.stop) (search rules) c.counted_session-left.ensures.session) in
    record { left = e.left; left_is = refl; desk_is = end.0; end = end.1 }

pub returns-else-caller-sessions-clause-run : goal.returns-else-caller-sessions-clause-run
returns-else-caller-sessions-clause-run g c house number seen r t =
    let e = c.counted_work-left.result in
    let p = c.in-Some.pass in
    let high : c.args.sessions < p.caller = (let a = c.if-caller-sessions.false in let b = c.caller.ensures in omega (arith, a, b)) in
    let end = work_ends c.args.desk.now house c.args.sessions number seen c.args.self.now p e.left e.memory c.args.lead r (search rules)
    high t.lead_is c.counted_work-left.ensures.work in
    record {
      left = e.left;
      left_is = refl;
      desk_is = end.0;
      end =
          subst (λ s. IsEnd house c.args.sessions number c.args.self.now.commands.items e.left 0 s) (sym c.stop_of-self.ensures) end.1;
    }
