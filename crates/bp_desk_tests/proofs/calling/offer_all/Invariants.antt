use Rattle.std.proofs.Common.{◌≡◌}
use Rattle.bp_desk_tests.specs.Passing.{IsPassOf}
use Rattle.bp_desk_tests.proofs.calling.offer_all.Given as goal

abbrev pub invariant-loop-offer : goal.invariant-loop-offer
invariant-loop-offer g l = IsPassOf l.desk l.hotel.house l.hotel.start l.pass × (l.pass.caller ≡ l.fn.pass.caller)
