use Rattle.std.specs.Prelude.{take}
use Rattle.std.specs.List.{AllZip}
use Rattle.bp_scenarios.specs.Outcomes.{IsOutcome}
use Rattle.bp_scenarios.proofs.alone.in_turn.Given as goal

abbrev pub invariant-loop-changes : goal.invariant-loop-changes
invariant-loop-changes l = AllZip (IsOutcome l.base) (take l.changes-index l.lists) l.outcomes.items
