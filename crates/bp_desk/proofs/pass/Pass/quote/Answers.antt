use Rattle.std.proofs.Common.{◌≤◌, ap, sym, subst, ◌∙◌}
use Rattle.bp_core.specs.Lines.{last_number, last_position}
use Rattle.bp_core.proofs.Growing.{number_never_falls}
use Rattle.bp_desk.specs.Passes.{PassState}
use Rattle.bp_desk.proofs.Quoting.{priced_pass}
use Rattle.bp_desk.proofs.pass.Pass.quote.Goals as goal

pub price-requires-clause-ordered : goal.price-requires-clause-ordered
price-requires-clause-ordered c =
    (priced_pass c.self.inside.seat c.args.self.now c.self.inside.caller c.self.inside.next c.self.inside.newest c.args.span c.self.view_is c.self.invariant
    c.requires).ordered

pub price-requires-clause-within : goal.price-requires-clause-within
price-requires-clause-within c =
    (priced_pass c.self.inside.seat c.args.self.now c.self.inside.caller c.self.inside.next c.self.inside.newest c.args.span c.self.view_is c.self.invariant
    c.requires).within

pub price-requires-clause-falls : goal.price-requires-clause-falls
price-requires-clause-falls c =
    (priced_pass c.self.inside.seat c.args.self.now c.self.inside.caller c.self.inside.next c.self.inside.newest c.args.span c.self.view_is c.self.invariant
    c.requires).falls

pub returns-clause-number : goal.returns-clause-number
returns-clause-number c = c.number.ensures ∙ c.self.invariant.knows.number_is ∙ ap (λ (q : PassState). last_number q.seen) c.self.view_is

pub returns-clause-never_falls : goal.returns-clause-never_falls
returns-clause-never_falls c before begins =
    subst (λ n. last_number before ≤ n) (sym (returns-clause-number c)) (number_never_falls before c.args.self.now.seen begins)

pub returns-clause-position : goal.returns-clause-position
returns-clause-position c = c.position.ensures ∙ c.self.invariant.knows.position_is ∙ ap (λ (q : PassState). last_position q.seen) c.self.view_is

pub returns-clause-sum : goal.returns-clause-sum
returns-clause-sum c = c.price.ensures ∙
    (priced_pass c.self.inside.seat c.args.self.now c.self.inside.caller c.self.inside.next c.self.inside.newest c.args.span c.self.view_is c.self.invariant
    c.requires).sum_is
