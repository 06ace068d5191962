use Rattle.std.proofs.Common.{◌∙◌, ap, arith}
use Rattle.bp_core.specs.Acting.{Diary}
use Rattle.bp_core.specs.Callers.{may_enrol}
use Rattle.bp_core.specs.Roll.{is_new}
use Rattle.bp_core.proofs.Standings.{opener_does_not_enrol, far_does_not_enrol, new_may_enrol}
use Rattle.bp_core.proofs.book.Book.may_enrol.Goals as goal

pub returns-then-caller-eq0 : goal.returns-then-caller-eq0
returns-then-caller-eq0 c = opener_does_not_enrol _ _ c.if-caller-eq0.true

pub returns-then-caller-gt-MOST_CALLERS : goal.returns-then-caller-gt-MOST_CALLERS
returns-then-caller-gt-MOST_CALLERS c = far_does_not_enrol _ _ c.if-caller-gt-MOST_CALLERS.true

pub returns : goal.returns
returns c = c.is_new.ensures ∙ ap is_new (c.self.invariant.standings c.args.caller (omega arith)) ∙
    new_may_enrol _ _ c.args.caller c.self.invariant.legal (omega arith) (omega arith) ∙ ap (λ (b : Diary). may_enrol b.history c.args.caller) c.self.view_is
