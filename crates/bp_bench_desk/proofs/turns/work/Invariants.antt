use Rattle.bp_bench_desk.specs.Turning.{IsReady}
use Rattle.bp_bench_desk.proofs.turns.work.Given as goal

abbrev pub invariant-loop-number : goal.invariant-loop-number
invariant-loop-number g l = IsReady l.turn l.worker.caller l.worker.seat
