use Rattle.std.proofs.Common.{◌≡◌, ◌/◌, length}
use Rattle.bp_ledger.specs.Tree.{IsInner, SameLeaves}
use Rattle.bp_ledger.proofs.TakeLemmas.{IsTaking}
use Rattle.bp_ledger.proofs.tree.take_between.Given as goal

-- the levels below are done, and only the parents of the two nodes may keep a number that is not the least
abbrev pub invariant-loop-left : goal.invariant-loop-left
invariant-loop-left l = record {
  taking : IsTaking l.levels l.low l.high l.left l.right l.units l.fn.amounts l.amounts;
  len : length l.leasts ≡ length l.fn.leasts;
  leaves : SameLeaves l.levels l.fn.leasts l.leasts;
  inner : IsInner l.levels l.leasts l.amounts (l.left / 2) (l.right / 2);
}

abbrev pub decreases-loop-left : goal.decreases-loop-left
decreases-loop-left l = l.right
