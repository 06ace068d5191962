use Rattle.std.proofs.Common.{◌-◌, ◌≤◌}
use Rattle.bp_flow.specs.Rising.{repairs, rises}
use Rattle.bp_flow.specs.Solving.{priced}
use Rattle.bp_flow.specs.Solvers.{ColdSoFar, CountsSearches}
use Rattle.bp_flow.proofs.solver.Solver.cold_from.Given as goal

-- there were no more searches than repairs are made
abbrev pub invariant-loop-night : goal.invariant-loop-night
invariant-loop-night g l = record {
  so_far : ColdSoFar l.instance l.night (priced l.solver);
  few : repairs l.solver.flow.program.rooms l.instance.rooms ≤ rises l.instance.rooms;
  counted : CountsSearches l.fn.steps l.steps 0 l.solver.served (rises l.instance.rooms - repairs l.solver.flow.program.rooms l.instance.rooms);
}
