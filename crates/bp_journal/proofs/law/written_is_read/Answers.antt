use Rattle.bp_journal.proofs.WrittenLemmas.{written_is_read}
use Rattle.bp_journal.proofs.law.written_is_read.Goals as goal

pub returns : goal.returns
returns c = written_is_read
