-- The script of a desk's sessions, which rests on the hotel's nights and on the codes of its stays.
use Rattle.std.specs.Prelude.{◌≡◌, ℕ, List, Ok, Err}
use Rattle.bp_types.specs.declared.limits.TheConstants.{MOST_FILE_BYTES}
use Rattle.bp_types.specs.declared.command.Command.{Command}
use Rattle.bp_hotelfile.specs.Season.{Season}
use Rattle.bp_script.specs.Scripts.{script_file}
use Rattle.bp_text.specs.Words.{Word}
use Rattle.bp_inputs.specs.Stages.{Stage}
use Rattle.bp_inputs.specs.declared.cause.FileError.{FileError}
use Rattle.bp_inputs.specs.declared.cause.FileError.TheVariants.{Text, Hotel, Table}

-- the bytes are no script of the hotel and these codes, for this reason
abbrev pub IsNoScript : Season → List (List ℕ) → List ℕ → FileError → Type 0
IsNoScript season codes bytes (Text e) = ⊥
IsNoScript season codes bytes (Hotel e) = ⊥
IsNoScript season codes bytes (Table e) = script_file season codes bytes ≡ Err e

-- the commands of each session, the first session first
abbrev pub script_of_hotel : Season → List (List ℕ) → Word → Stage
script_of_hotel season codes name = record {
  name = name;
  most = MOST_FILE_BYTES;
  Value = List (List Command);
  Accepts = λ bytes scripts. script_file season codes bytes ≡ Ok scripts;
  Refuses = IsNoScript season codes;
}
