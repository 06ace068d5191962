use Rattle.bp_ledger.proofs.FindLemmas.{IsAscending}
use Rattle.bp_ledger.proofs.tree.first_between.Given as goal

-- what was passed has the units
abbrev pub invariant-loop-left : goal.invariant-loop-left
invariant-loop-left l = IsAscending l.levels l.low l.high l.level l.left l.right l.higher l.units l.leasts l.amounts

abbrev pub decreases-loop-left : goal.decreases-loop-left
decreases-loop-left l = l.right
