use Rattle.std.proofs.Common.{◌≡◌, All}
use Rattle.bp_bench_desk.specs.Passing.{IsPassOf}
use Rattle.bp_bench_desk.proofs.shared.hire.Given as goal

abbrev pub invariant-loop-caller : goal.invariant-loop-caller
invariant-loop-caller g l = IsPassOf l.desk l.house l.opener × (l.opener.caller ≡ 0) × All (λ w. IsPassOf l.desk l.house w.pass) l.workers.items
