use Rattle.bp_desk_tests.specs.Passing.{IsPassOf}
use Rattle.bp_desk_tests.proofs.threads.work.Given as goal

abbrev pub invariant-loop-number : goal.invariant-loop-number
invariant-loop-number g l = IsPassOf l.desk l.hotel.house l.hotel.start l.caller.pass
