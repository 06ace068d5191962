use Rattle.std.proofs.Common.{◌≡◌, ◌+◌, drop}
use Rattle.bp_scenarios.proofs.RoomLemmas.{IsOnWay}
use Rattle.bp_scenarios.proofs.refused.first_refused.Given as goal

-- the changes that are left have the same first one that is refused
abbrev pub invariant-loop-change : goal.invariant-loop-change
invariant-loop-change l = (l.number ≡ l.change-index + 1) × IsOnWay l.fn.instance l.changes l.number l.instance (drop l.change-index l.changes)
