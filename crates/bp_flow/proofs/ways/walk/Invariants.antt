use Rattle.std.proofs.Common.{◌<◌}
use Rattle.bp_residual.specs.Network.{nodes}
use Rattle.bp_flow.specs.Shift.{IsShifting}
use Rattle.bp_flow.proofs.ways.walk.Given as goal

abbrev pub invariant-loop : goal.invariant-loop
invariant-loop l = IsShifting l.fn.flow l.flow l.start l.end l.units × (l.start < nodes l.flow) × (l.end < nodes l.flow)
