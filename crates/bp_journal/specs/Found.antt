-- What is found on a line that may be an entry's.
use Rattle.std.specs.Prelude.{◌≡◌, ℕ, IsTrue, ◌⊎◌, codes}
use Rattle.bp_text.specs.Lines.{Line}
use Rattle.bp_core.specs.declared.line.Entry.{Entry}
use Rattle.bp_journal.specs.declared.version.Version.{Version}
use Rattle.bp_journal.specs.declared.found.Found.{Found}
use Rattle.bp_journal.specs.declared.found.Found.TheVariants.{Bad, Great, Whole}
use Rattle.bp_journal.specs.Journals.{entry_text, version_line, is_form}
use Rattle.bp_journal.specs.Limits.{IsEntryWithin}

-- the line is an entry's, in a version, at a place
abbrev pub IsEntryLine : Version → ℕ → Line → Type 0
IsEntryLine version place line = (e : Entry) × IsTrue (is_form version e) × (line ≡ entry_text place e)

-- the line may stand where an entry may
abbrev pub IsEntryOrEnd : Version → ℕ → Line → Type 0
IsEntryOrEnd version place line = (line ≡ codes "end") ⊎ IsEntryLine version place line

-- its numbers are within the limits, if it is an entry's
abbrev pub IsFineLine : Version → ℕ → Line → Type 0
IsFineLine version place line = (e : Entry) → IsTrue (is_form version e) → line ≡ entry_text place e → IsEntryWithin e

-- what is found on a line
abbrev pub IsFound : Version → ℕ → Line → Found → Type 0
IsFound version place line Bad = IsEntryLine version place line → ⊥
IsFound version place line Great = IsEntryLine version place line × (IsFineLine version place line → ⊥)
IsFound version place line (Whole e) = IsTrue (is_form version e) × IsEntryWithin e × (line ≡ entry_text place e)

-- the first line of a version
abbrev pub IsVersionLine : Line → Type 0
IsVersionLine line = (version : Version) × (line ≡ version_line version)

-- any line, for the first one has no number above a limit
abbrev pub IsAnyLine : Line → Type 0
IsAnyLine line = Unit {0}
