use Rattle.std.proofs.Common.{◌≡◌, vec_capacity}
use Rattle.bp_core.specs.Log.{stored_between}
use Rattle.bp_core.proofs.log.Log.fill.Given as goal

-- what the places before this one change is filled in
abbrev pub invariant-loop-place : goal.invariant-loop-place
invariant-loop-place l = record {
  items : l.into.items ≡ stored_between l.self.deltas l.from l.place;
  capacity : vec_capacity l.into ≡ vec_capacity l.fn.into;
}
