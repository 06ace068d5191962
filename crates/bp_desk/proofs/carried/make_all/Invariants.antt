use Rattle.std.proofs.Common.{drop}
use Rattle.bp_types.specs.Changes.{Leads, changed_by_all}
use Rattle.bp_desk.proofs.carried.make_all.Given as goal

abbrev pub invariant-loop-change : goal.invariant-loop-change
invariant-loop-change l = Leads l.instance (drop l.change-index l.changes) (changed_by_all l.fn.instance l.changes)
