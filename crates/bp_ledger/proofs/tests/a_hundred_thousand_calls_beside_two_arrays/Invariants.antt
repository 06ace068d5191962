use Rattle.std.proofs.Common.{◌≡◌, length}
use Rattle.bp_ledger.proofs.tests.a_hundred_thousand_calls_beside_two_arrays.Given as goal

-- the ledger has as many nights as the arrays
abbrev pub invariant-loop-call : goal.invariant-loop-call
invariant-loop-call g l = length l.ledger.rooms ≡ 24
