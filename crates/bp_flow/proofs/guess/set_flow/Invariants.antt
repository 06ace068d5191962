use Rattle.bp_flow.specs.Solvers.{IsCarrying}
use Rattle.bp_flow.proofs.guess.set_flow.Given as goal

abbrev pub invariant-loop-arc : goal.invariant-loop-arc
invariant-loop-arc l = IsCarrying l.instance l.flow
