use Rattle.bp_bench_desk.specs.Passing.{IsPassOf}
use Rattle.bp_bench_desk.proofs.shared.work.Given as goal

abbrev pub invariant-loop : goal.invariant-loop
invariant-loop g l = IsPassOf l.desk l.house l.worker.pass
