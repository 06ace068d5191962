use Rattle.std.proofs.Common.{◌≡◌}
use Rattle.bp_ledger.specs.Tree.{width}
use Rattle.bp_ledger.proofs.tree.shape.Given as goal

abbrev pub invariant-loop-levels : goal.invariant-loop-levels
invariant-loop-levels l = l.leaves ≡ width l.levels
