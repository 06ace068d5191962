use Rattle.std.proofs.Common.{rules, refl, ◌≡◌, Some, subst, sym, ap, ◌∙◌}
use Rattle.bp_turn.specs.Prefix.{IsPrefix}
use Rattle.bp_desk.specs.Passes.{PassState}
use Rattle.bp_desk_run.proofs.Running.{same_pass}
use Rattle.bp_desk_run.proofs.Enrolling.{meets_again, ready_again}
use Rattle.bp_desk_run.proofs.actor.Actor.meet.Goals as goal

pub returns-clause-opener : goal.returns-clause-opener
returns-clause-opener c =
    let r = c.requires.ready.3 in
    let same = same_pass r.pass c.in-Some.pass (sym r.pass_is ∙ search rules) in
    meets_again c.args.opener.now c.meet.new.pass c.in-Some.pass (subst (λ (q : PassState). IsPrefix q.seen c.args.opener.now.seen) same r.begins)
    c.meet.ensures.pass

pub returns-clause-ready : goal.returns-clause-ready
returns-clause-ready c house sessions number r =
    let same = same_pass r.pass c.in-Some.pass (sym r.pass_is ∙ search rules) in
    let kept = meets_again c.args.opener.now c.meet.new.pass c.in-Some.pass (subst (λ (q : PassState). IsPrefix q.seen c.args.opener.now.seen) same r.begins)
    c.meet.ensures.pass in
    ready_again c.args.desk.now house sessions number c.args.opener.now c.meet.new.pass c.in-Some.pass c.meet.new.other c.args.self.now _ r (search rules)
    kept c.meet.ensures.other c.facts.ensures.legal c.facts.ensures.accounts refl (search rules) refl
