use Rattle.bp_ledger.proofs.tree.+push_above.Given as goal

abbrev pub decreases-push_above : goal.decreases-push_above
decreases-push_above l = l.level
