-- What is written of a legal history is read as this very history.
use Rattle.std.proofs.Common.{refl}
use Rattle.std.specs.Prelude.{Result, Ok}
use Rattle.bp_text.specs.declared.text_error.TextError.{TextError}
use Rattle.bp_core.specs.Lines.{History}
use Rattle.bp_journal.specs.declared.version.Version.TheVariants.{Two}
use Rattle.bp_journal.specs.Journals.{journal_text}
use Rattle.bp_journal.specs.Laws.{WrittenIsRead}
use Rattle.bp_journal.specs.Read.{IsJournalText}
use Rattle.bp_journal.proofs.LegalLemmas.{legal_is_journal}
use Rattle.bp_journal.proofs.SpellingLemmas.{one_reading}
use Rattle.bp_journal.proofs.WithinLemmas.{legal_is_within}

pub written_is_read : WrittenIsRead
written_is_read h H answer house legal told read =
    let wanted : Result History TextError = Ok H in
    let is : IsJournalText (journal_text H) wanted = ((Two, H, legal_is_journal h H legal), refl, (legal_is_within h H house legal, refl)) in
    one_reading (journal_text H) answer wanted told (λ e. cc) read is
