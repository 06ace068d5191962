use Rattle.bp_journal.proofs.LegalLemmas.{legal_is_journal}
use Rattle.bp_journal.proofs.law.legal_is_journal.Goals as goal

pub returns : goal.returns
returns c = legal_is_journal
