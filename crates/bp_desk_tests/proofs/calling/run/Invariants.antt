use Rattle.std.proofs.Common.{◌≡◌}
use Rattle.bp_desk_tests.specs.Passing.{IsPassOf}
use Rattle.bp_desk_tests.proofs.calling.run.Given as goal

abbrev pub invariant-loop-row : goal.invariant-loop-row
invariant-loop-row g l = IsPassOf l.desk l.hotel.house l.hotel.start l.pass × (l.pass.caller ≡ l.fn.pass.caller)
