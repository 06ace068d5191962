use Rattle.std.proofs.Common.{◌-◌, ◌≤◌, slice_index}
use Rattle.bp_flow.specs.Rising.{repairs}
use Rattle.bp_flow.specs.Solving.{priced}
use Rattle.bp_flow.specs.Solvers.{ColdSoFar, CountsSearches, difference}
use Rattle.bp_flow.proofs.solver.Solver.fill.Given as goal

-- there were no more searches than repairs are made
abbrev pub invariant-loop-self : goal.invariant-loop-self
invariant-loop-self g l = record {
  so_far : ColdSoFar l.instance l.night (priced l.self);
  falls : repairs l.self.flow.program.rooms l.instance.rooms ≤ repairs l.fn.self.flow.program.rooms l.instance.rooms;
  counted : CountsSearches l.fn.steps l.steps l.fn.self.served l.self.served
      (repairs l.fn.self.flow.program.rooms l.instance.rooms - repairs l.self.flow.program.rooms l.instance.rooms);
}

abbrev pub decreases-loop-self : goal.decreases-loop-self
decreases-loop-self g l = difference (slice_index l.self.flow.program.rooms l.night) (slice_index l.instance.rooms l.night)
