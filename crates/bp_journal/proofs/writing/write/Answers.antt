use Rattle.bp_text.proofs.DraftLemmas.{all_new_written}
use Rattle.bp_journal.proofs.writing.write.Goals as goal

pub returns-clause-writes : goal.returns-clause-writes
returns-clause-writes g c =
    all_new_written _ _ _ c.in_ok-draft.draft c.draft_journal.new.draft _ c.hand_on.result c.in_ok-draft.ensures c.in_ok-draft_journal.ensures.writes
    c.hand_on.ensures.writes
