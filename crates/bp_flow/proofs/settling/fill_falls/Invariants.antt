use Rattle.bp_flow.specs.Settled.{AreFalls}
use Rattle.bp_flow.proofs.settling.fill_falls.Given as goal

abbrev pub invariant-loop-node : goal.invariant-loop-node
invariant-loop-node l = AreFalls l.scratch.distances l.top l.by l.node
