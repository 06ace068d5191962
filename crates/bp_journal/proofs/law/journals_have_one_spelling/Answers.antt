use Rattle.bp_text.proofs.SpellingLemmas.{one_spelling, prefix_free}
use Rattle.bp_journal.specs.Journals.{noted_lines}
use Rattle.bp_journal.proofs.SpellingLemmas.{journals_are_spelled, versions_are_told, one_reading}
use Rattle.bp_journal.proofs.law.journals_have_one_spelling.Goals as goal

pub returns-clause-spelling : goal.returns-clause-spelling
returns-clause-spelling c = one_spelling noted_lines journals_are_spelled

pub returns-clause-prefix : goal.returns-clause-prefix
returns-clause-prefix c = prefix_free noted_lines journals_are_spelled

pub returns-clause-versions : goal.returns-clause-versions
returns-clause-versions c = versions_are_told

pub returns-clause-reading : goal.returns-clause-reading
returns-clause-reading c = one_reading
