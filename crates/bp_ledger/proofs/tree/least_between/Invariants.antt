use Rattle.bp_ledger.proofs.LookLemmas.{IsLooking, IsClimbing}
use Rattle.bp_ledger.proofs.tree.least_between.Given as goal

abbrev pub invariant-loop-left : goal.invariant-loop-left
invariant-loop-left l = IsLooking l.levels l.low l.high l.leasts l.amounts l.left l.right l.left_least l.right_least

abbrev pub decreases-loop-left : goal.decreases-loop-left
decreases-loop-left l = l.right

abbrev pub invariant-loop-left-2 : goal.invariant-loop-left-2
invariant-loop-left-2 l = IsClimbing l.levels l.low l.high l.leasts l.amounts l.left l.least

abbrev pub decreases-loop-left-2 : goal.decreases-loop-left-2
decreases-loop-left-2 l = l.left
