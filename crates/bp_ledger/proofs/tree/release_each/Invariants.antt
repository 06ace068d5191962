use Rattle.std.proofs.Common.{◌≡◌, ℕ, length}
use Rattle.bp_ledger.specs.Tree.{IsInner, SameLeaves, IsTaken}
use Rattle.bp_ledger.proofs.tree.release_each.Given as goal

-- the leaves before this one are done
abbrev pub invariant-loop-leaf : goal.invariant-loop-leaf
invariant-loop-leaf l = record {
  taken : IsTaken l.levels l.low l.leaf l.units l.amounts l.fn.amounts;
  len : length l.leasts ≡ length l.fn.leasts;
  leaves : SameLeaves l.levels l.fn.leasts l.leasts;
  inner : IsInner l.levels l.leasts l.amounts 0 0;
}
