use Rattle.std.proofs.Common.{◌∙◌, ◌≤◌, ap, arith}
use Rattle.bp_core.specs.Acting.{Diary}
use Rattle.bp_core.specs.Lines.{has_given_up}
use Rattle.bp_core.specs.Roll.{was_given_up}
use Rattle.bp_core.proofs.GivenUps.{none_before_one, none_past_callers, kept_says}
use Rattle.bp_core.proofs.book.Book.is_cancelled.Goals as goal

pub returns-then-caller-gt-MOST_CALLERS : goal.returns-then-caller-gt-MOST_CALLERS
returns-then-caller-gt-MOST_CALLERS c = none_past_callers _ _ c.args.caller c.args.nth c.self.invariant.legal c.if-caller-gt-MOST_CALLERS.true ∙
    ap (λ (b : Diary). has_given_up b.history c.args.caller c.args.nth) c.self.view_is

pub returns-then-nth-eq0 : goal.returns-then-nth-eq0
returns-then-nth-eq0 c = none_before_one _ _ c.args.caller c.args.nth c.self.invariant.legal c.if-nth-eq0.true ∙
    ap (λ (b : Diary). has_given_up b.history c.args.caller c.args.nth) c.self.view_is

pub returns : goal.returns
returns c =
    let from_one : 1 ≤ c.args.nth = omega (arith, c.if-nth-eq0.false) in
    c.was_given_up.ensures ∙ ap was_given_up c.booking.ensures ∙
    kept_says _ _ c.args.caller c.args.nth _ c.self.invariant.legal from_one (c.self.invariant.bookings c.args.caller (omega arith)) ∙
    ap (λ (b : Diary). has_given_up b.history c.args.caller c.args.nth) c.self.view_is
