use Rattle.std.proofs.Common.{◌≡◌, map}
use Rattle.std.specs.List.{range_with_len}
use Rattle.bp_core.specs.Instance.{units_left_at}
use Rattle.bp_bench.proofs.desk.Desk.all_units_left.Given as goal

-- the nights before this one are done
abbrev pub invariant-loop-night : goal.invariant-loop-night
invariant-loop-night l = l.left.items ≡ map (units_left_at l.self.house l.self.history) (range_with_len 0 l.night)
