-- The file of a journal, in one of its versions.
use Rattle.std.specs.Prelude.{◌≢◌, ℕ, List, Ok, Err}
use Rattle.bp_types.specs.declared.limits.TheConstants.{MOST_JOURNAL_BYTES}
use Rattle.bp_text.specs.declared.text_error.TextError.TheVariants.{Memory}
use Rattle.bp_core.specs.Lines.{History}
use Rattle.bp_journal.specs.Read.{IsJournalText}
use Rattle.bp_text.specs.Words.{Word}
use Rattle.bp_inputs.specs.Stages.{Stage}
use Rattle.bp_inputs.specs.declared.cause.FileError.{FileError}
use Rattle.bp_inputs.specs.declared.cause.FileError.TheVariants.{Text, Hotel, Table}

-- the bytes are no journal's text, and this is the first thing that is wrong with them
abbrev pub IsNoJournal : List ℕ → FileError → Type 0
IsNoJournal bytes (Text e) = (e ≢ Memory) × IsJournalText bytes (Err e)
IsNoJournal bytes (Hotel e) = ⊥
IsNoJournal bytes (Table e) = ⊥

-- a journal: the lines of a history, legal or not
abbrev pub journal_file : Word → Stage
journal_file name = record {
  name = name;
  most = MOST_JOURNAL_BYTES;
  Value = History;
  Accepts = λ bytes H. IsJournalText bytes (Ok H);
  Refuses = IsNoJournal;
}
