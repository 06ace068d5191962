-- The list of a portfolio: the names of its hotels' files.
use Rattle.std.specs.Prelude.{◌≢◌, ℕ, List, Ok, Err}
use Rattle.bp_types.specs.declared.limits.TheConstants.{MOST_FILE_BYTES}
use Rattle.bp_text.specs.declared.text_error.TextError.TheVariants.{Memory}
use Rattle.bp_portfolio.specs.Lists.{FiveNames, IsListText}
use Rattle.bp_text.specs.Words.{Word}
use Rattle.bp_inputs.specs.Stages.{Stage}
use Rattle.bp_inputs.specs.declared.cause.FileError.{FileError}
use Rattle.bp_inputs.specs.declared.cause.FileError.TheVariants.{Text, Hotel, Table}

-- the bytes are no list's text, and this is the first thing that is wrong with them
abbrev pub IsNoList : List ℕ → FileError → Type 0
IsNoList bytes (Text e) = (e ≢ Memory) × IsListText bytes (Err e)
IsNoList bytes (Hotel e) = ⊥
IsNoList bytes (Table e) = ⊥

-- a list: the names of each hotel's files, the first hotel first
abbrev pub list_file : Word → Stage
list_file name = record {
  name = name;
  most = MOST_FILE_BYTES;
  Value = List FiveNames;
  Accepts = λ bytes hotels. IsListText bytes (Ok hotels);
  Refuses = IsNoList;
}
