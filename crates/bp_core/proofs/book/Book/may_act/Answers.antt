use Rattle.std.proofs.Common.{◌∙◌, ap, arith}
use Rattle.bp_core.specs.Acting.{Diary}
use Rattle.bp_core.specs.Callers.{may_act}
use Rattle.bp_core.specs.Roll.{is_present}
use Rattle.bp_core.proofs.Standings.{opener_may, far_may_not, present_may}
use Rattle.bp_core.proofs.book.Book.may_act.Goals as goal

pub returns-then-caller-eq0 : goal.returns-then-caller-eq0
returns-then-caller-eq0 c = opener_may _ _ c.if-caller-eq0.true

pub returns-then-caller-gt-MOST_CALLERS : goal.returns-then-caller-gt-MOST_CALLERS
returns-then-caller-gt-MOST_CALLERS c = far_may_not _ _ c.args.caller c.self.invariant.legal c.if-caller-gt-MOST_CALLERS.true ∙
    ap (λ (b : Diary). may_act b.history c.args.caller) c.self.view_is

pub returns : goal.returns
returns c = c.is_present.ensures ∙ ap is_present (c.self.invariant.standings c.args.caller (omega arith)) ∙
    present_may c.self.inside.log.lines c.args.caller c.if-caller-eq0.false ∙ ap (λ (b : Diary). may_act b.history c.args.caller) c.self.view_is
