use Rattle.std.proofs.Common.{rules, refl, IsTrue, sym, ap, subst, ◌∙◌}
use Rattle.bp_types.specs.House.{Inn}
use Rattle.bp_core.specs.Legal.{is_command_in_range}
use Rattle.bp_optimise.specs.declared.tries.Attempt.TheVariants.{Again}
use Rattle.bp_optimise.specs.Tries.{IsOutcome, IsAttempt}
use Rattle.bp_optimise.proofs.Doing.{acts_again, acts_not}
use Rattle.bp_optimise.proofs.Stopping.{acts_twice, again_none, again_full, outcome_after}
use Rattle.bp_optimise.proofs.sessions.make_again.Goals as goal

pub loop-init : goal.loop-init
loop-init g c = (tt, tt, c.requires.goes, acts_not c.args.lead c.args.pass.now, refl, (λ e. absurd (cc)))

pub make_attempt-requires-clause-desk : goal.make_attempt-requires-clause-desk
make_attempt-requires-clause-desk g c = c.loop.invariant.3.desk ∙ c.requires.desk

pub make_attempt-requires-clause-range : goal.make_attempt-requires-clause-range
make_attempt-requires-clause-range g c = subst (λ (h : Inn). IsTrue (is_command_in_range h c.args.command)) (sym c.loop.invariant.3.house) c.requires.range

pub make_attempt-requires-clause-unit : goal.make_attempt-requires-clause-unit
make_attempt-requires-clause-unit g c = c.requires.unit ∙ ap (λ (h : Inn). h.limits.unit) (sym c.loop.invariant.3.house)

pub loop-preserved : goal.loop-preserved
loop-preserved g c =
    let inv = c.loop.invariant in
    let a : IsAttempt c.args.command c.loop.pass c.make_attempt.new.pass (Again c.in-Again.now) = search rules in (
      tt,
      tt,
      c.make_attempt.ensures.goes_on.goes,
      acts_again c.args.lead c.args.pass.now c.loop.pass c.make_attempt.new.pass inv.3 c.make_attempt.ensures.goes_on.acted,
      again_none c.args.command c.loop.pass c.make_attempt.new.pass c.in-Again.now a ∙ inv.4,
      (λ e. again_full c.args.command c.loop.pass c.make_attempt.new.pass c.in-Again.now a e),
    )

pub returns-in-Ended-clause-goes_on : goal.returns-in-Ended-clause-goes_on
returns-in-Ended-clause-goes_on g c =
    acts_twice c.args.lead c.args.pass.now c.loop.pass c.make_attempt.new.pass c.make_attempt.new.optimiser c.loop.invariant.3 c.make_attempt.ensures.goes_on

pub returns-in-Ended-clause-outcome : goal.returns-in-Ended-clause-outcome
returns-in-Ended-clause-outcome g c =
    let a : IsOutcome c.args.command c.loop.pass c.make_attempt.new.pass c.in-Ended.outcome = search rules in
    outcome_after c.args.command c.args.pass.now c.loop.pass c.make_attempt.new.pass c.in-Ended.outcome c.loop.invariant.4 a
