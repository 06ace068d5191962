use Rattle.std.proofs.Common.{rules, refl, ◌≡◌, ℕ, ◌+◌, ◌/◌, ◌≤◌, length, ap, sym, subst, ◌∙◌, arith, ◌&&◌}
use Rattle.bp_types.specs.declared.command.Limits.{Limits}
use Rattle.bp_desk.specs.Passes.{PassState}
use Rattle.bp_desk_run.specs.declared.actor.TheConstants.{MOST_ACTORS}
use Rattle.bp_desk_run.specs.Actors.{AreTerms, AreReady}
use Rattle.bp_desk_run.specs.Finals.{ComesTo}
use Rattle.bp_desk_run.proofs.Composing.{terms, parts, flags, run_of, all_back, some_stale}
use Rattle.bp_desk_run.proofs.callers.run_callers.Goals as goal

pub meet_all-requires-clause-ready : goal.meet_all-requires-clause-ready
meet_all-requires-clause-ready g c = (c.in_ok-desk.opener.house, c.args.sessions, c.in_ok-enrol_all.ensures.ready)

pub run_all-requires-clause-ready : goal.run_all-requires-clause-ready
run_all-requires-clause-ready g c κs ls =
    let few : c.args.sessions ≤ MOST_ACTORS = (let a = c.requires.few in let b = c.requires.sessions in omega (arith, a, b)) in
    let told : AreTerms c.args.house c.args.sessions ((c.limits-limits.result.stale_after + 1) / 2) c.limits-limits.result.unit =
    subst (λ (l : Limits). AreTerms c.args.house c.args.sessions ((l.stale_after + 1) / 2) l.unit) (sym c.limits-limits.ensures.value)
    (terms c.args.house c.args.sessions c.limits-limits.ensures.house few) in
    let ready : AreReady c.in_ok-desk.desk c.args.house c.args.sessions c.enrol_all.new.opener.seen c.enrol_all.new.actors =
    subst (λ h. AreReady c.in_ok-desk.desk h c.args.sessions c.enrol_all.new.opener.seen c.enrol_all.new.actors)
    (ap (λ (p : PassState). p.house) c.in_ok-desk.ensures.2) c.in_ok-enrol_all.ensures.ready in
    let met = c.meet_all.ensures.ready c.args.house c.args.sessions ready in
    (c.args.house, c.enrol_all.new.opener.seen, met.0, told)

pub join_all-requires-clause-run : goal.join_all-requires-clause-run
join_all-requires-clause-run g c =
    let few : c.args.sessions ≤ MOST_ACTORS = (let a = c.requires.few in let b = c.requires.sessions in omega (arith, a, b)) in
    let told : AreTerms c.args.house c.args.sessions ((c.limits-limits.result.stale_after + 1) / 2) c.limits-limits.result.unit =
    subst (λ (l : Limits). AreTerms c.args.house c.args.sessions ((l.stale_after + 1) / 2) l.unit) (sym c.limits-limits.ensures.value)
    (terms c.args.house c.args.sessions c.limits-limits.ensures.house few) in
    let ready : AreReady c.in_ok-desk.desk c.args.house c.args.sessions c.enrol_all.new.opener.seen c.enrol_all.new.actors =
    subst (λ h. AreReady c.in_ok-desk.desk h c.args.sessions c.enrol_all.new.opener.seen c.enrol_all.new.actors)
    (ap (λ (p : PassState). p.house) c.in_ok-desk.ensures.2) c.in_ok-enrol_all.ensures.ready in
    let met = c.meet_all.ensures.ready c.args.house c.args.sessions ready in
    (c.args.house, c.args.sessions, c.run_all.ensures.run c.args.house c.enrol_all.new.opener.seen met.0 told)

pub close_desk-requires-clause-back : goal.close_desk-requires-clause-back
close_desk-requires-clause-back g c =
    let few : c.args.sessions ≤ MOST_ACTORS = (let a = c.requires.few in let b = c.requires.sessions in omega (arith, a, b)) in
    let told : AreTerms c.args.house c.args.sessions ((c.limits-limits.result.stale_after + 1) / 2) c.limits-limits.result.unit =
    subst (λ (l : Limits). AreTerms c.args.house c.args.sessions ((l.stale_after + 1) / 2) l.unit) (sym c.limits-limits.ensures.value)
    (terms c.args.house c.args.sessions c.limits-limits.ensures.house few) in
    let p = parts c.in_ok-desk.desk c.args.house c.args.sessions _ _ c.args.actors.now c.enrol_all.new.actors c.meet_all.new.actors c.run_all.new.actors
    c.in_ok-desk.ensures.0 c.in_ok-desk.opener c.enrol_all.new.opener c.meet_all.new.opener c.join_all.new.opener
    c.in_ok-desk.ensures.1 c.in_ok-desk.ensures.2 c.requires.few c.in_ok-enrol_all.ensures.opener c.in_ok-enrol_all.ensures.ready
    c.in_ok-enrol_all.ensures.commands c.meet_all.ensures.opener c.meet_all.ensures.ready c.meet_all.ensures.commands c.facts-2.ensures.accounts
    c.run_all.ensures.run c.run_all.ensures.commands told c.join_all.ensures.opener c.join_all.ensures.ended in (
      length c.args.actors.now,
      all_back c.in_ok-desk.desk c.args.house c.args.sessions (length c.args.actors.now)
          c.in_ok-desk.ensures.0 c.in_ok-desk.opener c.enrol_all.new.opener c.meet_all.new.opener c.join_all.new.opener c.run_all.new.actors p.0,
    )

pub returns-clause-ran : goal.returns-clause-ran
returns-clause-ran g c scripts workers s =
    let few : c.args.sessions ≤ MOST_ACTORS = (let a = c.requires.few in let b = c.requires.sessions in omega (arith, a, b)) in
    let told : AreTerms c.args.house c.args.sessions ((c.limits-limits.result.stale_after + 1) / 2) c.limits-limits.result.unit =
    subst (λ (l : Limits). AreTerms c.args.house c.args.sessions ((l.stale_after + 1) / 2) l.unit) (sym c.limits-limits.ensures.value)
    (terms c.args.house c.args.sessions c.limits-limits.ensures.house few) in
    let p = parts c.in_ok-desk.desk c.args.house c.args.sessions _ _ c.args.actors.now c.enrol_all.new.actors c.meet_all.new.actors c.run_all.new.actors
    c.in_ok-desk.ensures.0 c.in_ok-desk.opener c.enrol_all.new.opener c.meet_all.new.opener c.join_all.new.opener
    c.in_ok-desk.ensures.1 c.in_ok-desk.ensures.2 c.requires.few c.in_ok-enrol_all.ensures.opener c.in_ok-enrol_all.ensures.ready
    c.in_ok-enrol_all.ensures.commands c.meet_all.ensures.opener c.meet_all.ensures.ready c.meet_all.ensures.commands c.facts-2.ensures.accounts
    c.run_all.ensures.run c.run_all.ensures.commands told c.join_all.ensures.opener c.join_all.ensures.ended in
    let f = flags c.run_all.new.actors c.join_all.new.actors c.all_finished-finished.result c.join_all.ensures.stops
    (c.any_stopped.ensures.no c.if-any_stopped.false) c.all_finished-finished.ensures.yes c.all_finished-finished.ensures.no in
    let r = run_of c.in_ok-desk.desk c.args.house c.args.sessions c.args.actors.now c.run_all.new.actors c.in_ok-desk.ensures.0 c.in_ok-desk.opener
    c.enrol_all.new.opener c.meet_all.new.opener c.join_all.new.opener c.in_ok-book.book c.in_ok-book.round c.all_finished-finished.result
    p.0 p.1 c.facts-3.ensures.accounts c.in_ok-book.ensures f (some_stale c.args.house c.limits-limits.ensures.house) scripts workers s in
    let is = c.both.ensures ∙ ap (λ b. c.all_finished-finished.result && b) c.has_closed.ensures in
    subst (ComesTo c.args.house scripts workers c.in_ok-book.book.history) (sym is) r
