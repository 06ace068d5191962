use Rattle.std.proofs.Common.{◌≤◌, ◌-◌, drop, length}
use Rattle.bp_flow.specs.Solvers.{CountsSearches}
use Rattle.bp_warm.specs.Turns.{IsOnWay, moved_so_far}
use Rattle.bp_warm.proofs.restart.catch_up.Given as goal

abbrev pub invariant-loop-made : goal.invariant-loop-made
invariant-loop-made g l =
    IsOnWay l.fn.solver.flow.program l.changes l.solver.flow.program (drop l.made l.changes)
    × CountsSearches l.fn.steps l.steps l.fn.solver.served l.solver.served
    (moved_so_far l.fn.solver.flow.program l.changes l.solver.flow.program (drop l.made l.changes))
    × (l.made ≤ length l.changes)

abbrev pub decreases-loop-made : goal.decreases-loop-made
decreases-loop-made g l = length l.changes - l.made
