use Rattle.std.proofs.Common.{◌≡◌}
use Rattle.bp_flow.specs.Settled.{IsSettled}
use Rattle.bp_solver_tests.proofs.warm.follow.Given as goal

abbrev pub invariant-loop-number : goal.invariant-loop-number
invariant-loop-number g l = (l.solver.flow.program ≡ l.instance) × IsSettled l.solver
