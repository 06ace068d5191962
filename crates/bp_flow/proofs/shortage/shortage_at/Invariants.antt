use Rattle.bp_flow.specs.Solvers.{IsShortage}
use Rattle.bp_flow.proofs.shortage.shortage_at.Given as goal

abbrev pub invariant-loop-to : goal.invariant-loop-to
invariant-loop-to l = IsShortage l.instance l.solver.flow.program.rooms l.up l.night l.to l.units
