use Rattle.std.proofs.Common.{drop}
use Rattle.bp_residual.specs.Network.{pushed_along, steps_of}
use Rattle.bp_residual.proofs.PushLoop.{LeftToPush}
use Rattle.bp_residual.proofs.flow.Flow.push.Given as goal

abbrev pub invariant-loop-hop : goal.invariant-loop-hop
invariant-loop-hop l = LeftToPush (pushed_along l.fn.self.flow (steps_of l.fn.self.flow.program l.path) l.units) l.self.flow (drop l.hop-index l.path)
    l.units l.self.potentials l.fn.self.potentials
