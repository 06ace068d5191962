use Rattle.std.proofs.Common.{◌≡◌, length}
use Rattle.bp_bench.proofs.spans.opened.Given as goal

abbrev pub invariant-loop-night : goal.invariant-loop-night
invariant-loop-night l = length l.ledger.rooms ≡ 400
