use Rattle.bp_journal.proofs.EntryLemmas.{entry_injective}
use Rattle.bp_journal.proofs.law.entries_are_told.Goals as goal

pub returns : goal.returns
returns c = entry_injective
