use Rattle.bp_scenarios.specs.Outcomes.{IsOutcome}
use Rattle.bp_scenarios.proofs.Collected.{zip_more}
use Rattle.bp_scenarios.proofs.alone.in_turn.Goals as goal

pub loop-changes-preserved : goal.loop-changes-preserved
loop-changes-preserved c =
    zip_more (IsOutcome c.args.base.now)
    _ _ _ _ _ _ c.loop-changes-test.true c.changes-item.is c.loop-changes.invariant c.in_ok-outcome_of.ensures c.in_ok-push.ensures.items
