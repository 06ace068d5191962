use Rattle.std.proofs.Common.{length}
use Rattle.bp_text.proofs.FormLemmas.{IsSeen}
use Rattle.bp_text.proofs.numbers.numbers.Given as goal

abbrev pub invariant-loop-rest : goal.invariant-loop-rest
invariant-loop-rest l = IsSeen l.text l.rest l.bounds l.into.items l.count

abbrev pub decreases-loop-rest : goal.decreases-loop-rest
decreases-loop-rest l = length l.rest
