use Rattle.std.proofs.Common.{◌≡◌, length}
use Rattle.bp_bench.proofs.spans.visit_all.Given as goal

abbrev pub invariant-loop-number : goal.invariant-loop-number
invariant-loop-number l = length l.ledger.rooms ≡ 400
