use Rattle.std.proofs.Common.{ap, sym, ◌∙◌}
use Rattle.bp_core.specs.Callers.{left_of}
use Rattle.bp_core.specs.Acting.{Diary}
use Rattle.bp_desk.proofs.Made.{State}
use Rattle.bp_desk.proofs.Standing.{pass_reads}
use Rattle.bp_desk.proofs.desk.Desk.left.Goals as goal

pub invariant_of-pass : goal.invariant_of-pass
invariant_of-pass g c =
    pass_reads c.pass.inside.seat c.take-shared.new.seat c.give.new.seat c.take-shared.result c.pass.inside.caller c.pass.inside.next c.pass.inside.newest
    c.give.new.newest c.pass.invariant
    c.take-shared.ensures c.give.ensures.seat c.give.ensures.newest

pub returns-clause-left : goal.returns-clause-left
returns-clause-left g c =
    c.left-left.ensures ∙ ap (λ (d : Diary). left_of d.history c.args.sessions) (c.deref.ensures ∙ c.shared.view_is)
    ∙ sym (ap (λ (x : State). left_of x.seen c.args.sessions) c.take-shared.ensures.seat) ∙
    sym (ap (λ (x : State). left_of x.seen c.args.sessions) c.give.ensures.seat)
