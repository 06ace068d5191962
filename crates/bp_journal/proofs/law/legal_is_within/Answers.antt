use Rattle.bp_journal.proofs.WithinLemmas.{legal_is_within}
use Rattle.bp_journal.proofs.law.legal_is_within.Goals as goal

pub returns : goal.returns
returns c = legal_is_within
