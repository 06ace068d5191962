use Rattle.std.proofs.Common.{◌<◌, ◌≤◌, ◌+◌, List, ap, sym, subst, ◌∙◌, length, arith}
use Rattle.std.specs.Prelude.{vec_capacity}
use Rattle.bp_types.specs.declared.change.Change.{Change}
use Rattle.bp_core.specs.Acting.{Diary}
use Rattle.bp_core.specs.Changes.{deltas_between}
use Rattle.bp_desk.specs.Passes.{PassState}
use Rattle.bp_desk.specs.Calling.{HasTurn}
use Rattle.bp_desk.proofs.Standing.{pass_reads, deltas_seen}
use Rattle.bp_desk.proofs.desk.Desk.changes_until.Goals as goal

pub invariant_of-pass : goal.invariant_of-pass
invariant_of-pass g c =
    pass_reads c.pass.inside.seat c.take-shared.new.seat c.give.new.seat c.take-shared.result c.pass.inside.caller c.pass.inside.next c.pass.inside.newest
    c.give.new.newest c.pass.invariant
    c.take-shared.ensures c.give.ensures.seat c.give.ensures.newest

pub returns-clause-items : goal.returns-clause-items
returns-clause-items g c =
    let s = c.pass.inside.seat in let m = c.take-shared.new.seat in let b = c.deref.result.now in let k = c.changes_until-reached.result in
    let turn : HasTurn s m b = subst (λ (d : Diary). HasTurn s m d) (sym (c.deref.ensures ∙ c.shared.view_is)) c.take-shared.ensures in
    let seen : c.args.until ≤ length s.seen = subst (λ (q : PassState). c.args.until ≤ length q.seen) (sym c.pass.view_is) c.requires.within in
    let reached = c.changes_until-reached.ensures.reached in
    c.changes_until-reached.ensures.items ∙ deltas_seen s m b c.args.from k c.args.until turn reached.0 reached.1 seen
    ∙ ap (λ (q : PassState). deltas_between q.house q.seen c.args.from k) c.pass.view_is

pub returns-clause-full : goal.returns-clause-full
returns-clause-full g c lt =
    let s = c.pass.inside.seat in let m = c.take-shared.new.seat in let b = c.deref.result.now in let k = c.changes_until-reached.result in
    let turn : HasTurn s m b = subst (λ (d : Diary). HasTurn s m d) (sym (c.deref.ensures ∙ c.shared.view_is)) c.take-shared.ensures in
    let seen : c.args.until ≤ length s.seen = subst (λ (q : PassState). c.args.until ≤ length q.seen) (sym c.pass.view_is) c.requires.within in
    let reached = c.changes_until-reached.ensures.reached in
    subst (λ (l : List Change). vec_capacity c.args.into.now < length l)
    (deltas_seen s m b c.args.from (k + 1) c.args.until turn (let r = reached.0 in omega (arith, r)) (omega (arith, lt)) seen ∙
    ap (λ (q : PassState). deltas_between q.house q.seen c.args.from (k + 1)) c.pass.view_is)
    (c.changes_until-reached.ensures.full lt)
