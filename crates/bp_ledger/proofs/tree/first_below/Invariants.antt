use Rattle.bp_ledger.proofs.FindLemmas.{IsDescending}
use Rattle.bp_ledger.proofs.tree.first_below.Given as goal

-- the node has fewer left, and what lies before it below the first one has not
abbrev pub invariant-loop-level : goal.invariant-loop-level
invariant-loop-level l = IsDescending l.levels l.top l.node l._level l.at l.sum l.units l.leasts l.amounts
