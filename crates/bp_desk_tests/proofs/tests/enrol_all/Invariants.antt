use Rattle.std.proofs.Common.{◌≡◌}
use Rattle.bp_desk_tests.specs.Passing.{IsPassOf}
use Rattle.bp_desk_tests.proofs.tests.enrol_all.Given as goal

abbrev pub invariant-loop-caller : goal.invariant-loop-caller
invariant-loop-caller g l = IsPassOf l.desk l.hotel.house l.hotel.start l.opener × (l.opener.caller ≡ 0)
