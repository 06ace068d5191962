-- How a journal's text is read.
use Rattle.std.specs.Prelude.{◌≡◌, ◌⊎◌, ℕ, true, false, IsTrue, List, ◌∷◌, All, codes, Option, Some, None, is_some, Result, Ok, Err}
use Rattle.bp_types.specs.Claim.{Claim}
use Rattle.bp_text.specs.declared.text_error.TextError.{TextError}
use Rattle.bp_text.specs.Lines.{Given, GivesLine}
use Rattle.bp_text.specs.Places.{IsRefusedLine}
use Rattle.bp_text.specs.Reading.{IsReading, IsText, GivesLines}
use Rattle.bp_cert.specs.Texts.{claim_lines, IsSpeakable}
use Rattle.bp_core.specs.declared.line.Act.{Act}
use Rattle.bp_core.specs.declared.line.Entry.{Entry}
use Rattle.bp_core.specs.declared.line.Line.{Line}
use Rattle.bp_core.specs.Lines.{History, published_position}
use Rattle.bp_journal.specs.declared.version.Version.{Version}
use Rattle.bp_journal.specs.Journals.{Noted, entry_text, journal_lines, noted_lines, certificate_part, is_form, is_line_of, is_journal}
use Rattle.bp_journal.specs.Limits.{IsNotedWithin, IsLineWithin, IsEntryWithin}
use Rattle.bp_journal.specs.Found.{IsEntryOrEnd, IsFineLine}

-- the bytes are the text of the history in a version that can say it, or they are refused at the first wrong line
abbrev pub IsJournalText : List ℕ → Result History TextError → Type 0
IsJournalText bytes (Ok H) = (v : Noted) × (v.1 ≡ H) × IsText noted_lines IsNotedWithin bytes (Ok v)
IsJournalText bytes (Err e) = IsText noted_lines IsNotedWithin bytes (Err e)

-- the lines of a history within the limits were given, in a version that can say it
pub record IsNoted (old new : Given) (H : History) : Type 0 where
  pub version : Version
  pub journal : IsTrue (is_journal version H)
  pub within : All IsLineWithin H
  pub gives : GivesLines old new (journal_lines version H) new.rest

-- the lines of a certificate behind a Publish, and none behind another act
abbrev pub IsCertificateRead : Act → Given → Given → Result (Option Claim) TextError → Type 0
IsCertificateRead act old new (Ok None) = (new ≡ old) × (is_some (published_position act) ≡ false)
IsCertificateRead act old new (Ok (Some c)) = IsSpeakable c × GivesLines old new (claim_lines c) new.rest × (is_some (published_position act) ≡ true)
IsCertificateRead act old new (Err e) = IsReading claim_lines IsSpeakable old new (Err e) × (is_some (published_position act) ≡ true)

-- why an entry with its lines is refused: its own line is right, and one of those behind it is not
pub record IsRefusedBehind (version : Version) (place : ℕ) (old new : Given) (e : TextError) : Type 0 where
  pub entry : Entry
  pub form : IsTrue (is_form version entry)
  pub within : IsEntryWithin entry
  pub publishes : is_some (published_position entry.act) ≡ true
  pub middle : Given
  pub gives : GivesLine old middle (entry_text place entry)
  pub refused : IsReading claim_lines IsSpeakable middle new (Err e)

-- a line of a history was given, or the last line, or why not
abbrev pub IsLineRead : Version → ℕ → Given → Given → Result (Option Line) TextError → Type 0
IsLineRead version place old new (Ok None) = GivesLine old new (codes "end")
IsLineRead version place old new (Ok (Some x)) =
    (is_line_of version x ≡ true) × IsLineWithin x × GivesLines old new (entry_text place x.entry ∷ certificate_part x.certificate) new.rest
IsLineRead version place old new (Err e) =
    IsRefusedLine (IsEntryOrEnd version place) (IsFineLine version place) old new e ⊎ IsRefusedBehind version place old new e
