use Rattle.std.proofs.Common.{◌≡◌, map}
use Rattle.std.specs.List.{range_with_len}
use Rattle.bp_core.specs.Instance.{stay_now}
use Rattle.bp_bench.proofs.desk.Desk.stays_now.Given as goal

-- the stays before this one are done
abbrev pub invariant-loop-stay : goal.invariant-loop-stay
invariant-loop-stay l = l.stays.items ≡ map (stay_now l.self.house l.self.history) (range_with_len 0 l.stay)
