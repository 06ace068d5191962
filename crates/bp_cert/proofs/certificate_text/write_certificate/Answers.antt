use Rattle.bp_text.proofs.DraftLemmas.{all_new_written}
use Rattle.bp_cert.proofs.certificate_text.write_certificate.Goals as goal

pub returns-clause-writes : goal.returns-clause-writes
returns-clause-writes g c =
    all_new_written _ _ _ c.in_ok-draft.draft c.draft_certificate.new.draft _ c.hand_on.result c.in_ok-draft.ensures c.in_ok-draft_certificate.ensures.writes
    c.hand_on.ensures.writes
