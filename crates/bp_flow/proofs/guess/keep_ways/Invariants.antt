use Rattle.std.proofs.Common.{◌≡◌}
use Rattle.bp_flow.proofs.guess.keep_ways.Given as goal

abbrev pub invariant-loop-node : goal.invariant-loop-node
invariant-loop-node l = l.scratch ≡ l.fn.scratch
