use Rattle.std.proofs.Common.{◌≡◌, ◌-◌, ◌<◌, ◌≤◌, length}
use Rattle.bp_residual.specs.Network.{nodes}
use Rattle.bp_flow.specs.Shift.{IsShifting}
use Rattle.bp_flow.specs.Solvers.{CountsSearches}
use Rattle.bp_flow.proofs.moves.shift.Given as goal

abbrev pub invariant-loop-left : goal.invariant-loop-left
invariant-loop-left g l =
    IsShifting l.fn.flow l.flow l.start l.end l.left
    × (l.start < nodes l.flow)
    × (l.end < nodes l.flow)
    × (l.left ≤ l.units)
    × (length l.scratch.distances ≡ length l.fn.scratch.distances)
    × CountsSearches l.fn.steps l.steps l.fn.scratch.served l.scratch.served (l.units - l.left)

abbrev pub decreases-loop-left : goal.decreases-loop-left
decreases-loop-left g l = l.left
