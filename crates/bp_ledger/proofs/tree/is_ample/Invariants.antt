use Rattle.bp_ledger.proofs.TakeLemmas.{IsChecked}
use Rattle.bp_ledger.proofs.tree.is_ample.Given as goal

abbrev pub invariant-loop-left : goal.invariant-loop-left
invariant-loop-left l = IsChecked l.low l.high l.units l.levels l.left l.right l.amounts

abbrev pub decreases-loop-left : goal.decreases-loop-left
decreases-loop-left l = l.right
