-- Laws over journals' texts.
use Rattle.std.specs.Prelude.{◌≡◌, ◌≢◌, ℕ, IsTrue, All, List, Result, Ok, Err}
use Rattle.bp_types.specs.House.{Inn, IsHouse}
use Rattle.bp_text.specs.declared.text_error.TextError.{TextError}
use Rattle.bp_text.specs.declared.text_error.TextError.TheVariants.{Memory}
use Rattle.bp_text.specs.Lines.{text_of}
use Rattle.bp_core.specs.declared.line.Entry.{Entry}
use Rattle.bp_core.specs.Lines.{History}
use Rattle.bp_core.specs.Legal.{IsLegal}
use Rattle.bp_journal.specs.declared.version.Version.TheVariants.{One, Two}
use Rattle.bp_journal.specs.Journals.{entry_text, journal_lines, journal_text, is_journal}
use Rattle.bp_journal.specs.Limits.{IsLineWithin}
use Rattle.bp_journal.specs.Read.{IsJournalText}

-- no two entries are spelt the same
abbrev pub EntriesAreTold : Type 0
EntriesAreTold = (place : ℕ) (e f : Entry) → entry_text place e ≡ entry_text place f → e ≡ f

-- no text of the one version is a text of the other
abbrev pub VersionsAreTold : Type 0
VersionsAreTold = (G H : History) → text_of (journal_lines Two G) ≢ text_of (journal_lines One H)

-- bytes are read in one way, want of memory apart
abbrev pub OneReading : Type 0
OneReading =
    (bytes : List ℕ) (a b : Result History TextError) → a ≢ Err Memory → b ≢ Err Memory → IsJournalText bytes a → IsJournalText bytes b → a ≡ b

-- a legal history can be said as a journal of the second version
abbrev pub LegalIsJournal : Type 0
LegalIsJournal = (h : Inn) (H : History) → IsLegal h H → IsTrue (is_journal Two H)

-- and its numbers keep to the reader's limits
abbrev pub LegalIsWithin : Type 0
LegalIsWithin = (h : Inn) (H : History) → IsHouse h → IsLegal h H → All IsLineWithin H

-- so what is written of it is read as this very history, want of memory apart
abbrev pub WrittenIsRead : Type 0
WrittenIsRead =
    (h : Inn) (H : History) (answer : Result History TextError) → IsHouse h → IsLegal h H → answer ≢ Err Memory → IsJournalText (journal_text H) answer →
    answer ≡ Ok H
