use Rattle.std.proofs.Common.{rules, refl, ◌∙◌}
use Rattle.bp_optimise.specs.Stepping.{IsStep}
use Rattle.bp_optimise.specs.declared.worker.Next.TheVariants.{Leaves, Rounds}
use Rattle.bp_optimise.proofs.Doing.{acts_again, acts_not}
use Rattle.bp_optimise.proofs.Settling.{settles_on, leaves_settled, settled_none}
use Rattle.bp_optimise.proofs.worker.make_rounds.Goals as goal

pub loop-init : goal.loop-init
loop-init g c = (tt, tt, c.requires.goes, acts_not c.args.lead c.args.pass.now, refl, (λ _. settled_none c.args.sessions c.args.lead c.args.pass.now))

pub returns-in-Leaves-clause-acted : goal.returns-in-Leaves-clause-acted
returns-in-Leaves-clause-acted g c =
    acts_again c.args.lead c.args.pass.now c.loop.pass c.make_step.new.pass c.loop.invariant.3 c.make_step.ensures.goes_on.acted

pub returns-in-NoMemory-clause-acted : goal.returns-in-NoMemory-clause-acted
returns-in-NoMemory-clause-acted g c =
    acts_again c.args.lead c.args.pass.now c.loop.pass c.make_step.new.pass c.loop.invariant.3 c.make_step.ensures.goes_on.acted

pub returns-in-Leaves-clause-settled : goal.returns-in-Leaves-clause-settled
returns-in-Leaves-clause-settled g c =
    let s : IsStep c.args.sessions c.args.lead c.loop.superseded c.loop.pass c.make_step.new.pass Leaves = search rules in
    λ _. leaves_settled c.args.sessions c.args.lead c.loop.superseded c.args.pass.now c.loop.pass c.make_step.new.pass s c.loop.invariant.5

pub loop-preserved : goal.loop-preserved
loop-preserved g c =
    let inv = c.loop.invariant in
    let s : IsStep c.args.sessions c.args.lead c.loop.superseded c.loop.pass c.make_step.new.pass (Rounds c.in-Rounds.again) = search rules in (
      tt,
      tt,
      c.make_step.ensures.goes_on.goes,
      acts_again c.args.lead c.args.pass.now c.loop.pass c.make_step.new.pass inv.3 c.make_step.ensures.goes_on.acted,
      c.make_step.ensures.no_command ∙ inv.4,
      (λ e. settles_on c.args.sessions c.args.lead c.loop.superseded c.in-Rounds.again c.loop.pass c.make_step.new.pass s e c.args.pass.now inv.3.turns),
    )
