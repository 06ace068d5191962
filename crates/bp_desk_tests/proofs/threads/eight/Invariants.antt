use Rattle.std.proofs.Common.{◌≡◌, All}
use Rattle.bp_desk_tests.specs.Passing.{IsPassOf}
use Rattle.bp_desk_tests.proofs.threads.eight.Given as goal

abbrev pub invariant-loop : goal.invariant-loop
invariant-loop g l = IsPassOf l.desk l.hotel.house l.hotel.start l.opener × (l.opener.caller ≡ 0) ×
    All (λ c. IsPassOf l.desk l.hotel.house l.hotel.start c.pass) l.callers.items
