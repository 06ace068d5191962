use Rattle.std.proofs.Common.{◌≡◌, All}
use Rattle.bp_turn.proofs.tests.opened.Given as goal

abbrev pub invariant-loop-number : goal.invariant-loop-number
invariant-loop-number l = All (λ e. e.0 ≡ 0) l.pairs.items
