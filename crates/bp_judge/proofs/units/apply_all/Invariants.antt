use Rattle.std.proofs.Common.{◌≡◌, ◌+◌, ◌*◌, ◌^◌, ◌≤◌, drop}
use Rattle.bp_types.specs.Changes.{changed_by_all, FitInTurn}
use Rattle.bp_warm.specs.Turns.{units_moved_by_all}
use Rattle.bp_judge.proofs.units.apply_all.Given as goal

-- the changes that are left may be made in turn, lead where all of them led, and move what is not counted yet
abbrev pub invariant-loop-change : goal.invariant-loop-change
invariant-loop-change l = record {
  fits : FitInTurn l.instance (drop l.change-index l.changes);
  leads : changed_by_all l.instance (drop l.change-index l.changes) ≡ changed_by_all l.fn.instance l.changes;
  moved : l.moved + units_moved_by_all l.instance (drop l.change-index l.changes) ≡ units_moved_by_all l.fn.instance l.changes;
  small : l.moved ≤ l.change-index * 2 ^ 65;
}
