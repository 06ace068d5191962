-- The command that `clap` reads the words of a desk by, and what it has to give of them.
use Rattle.std.specs.Prelude.{◌≡◌, true, List, Option, Some, None, codes}
use Rattle.clap.specs.Walk.{Rule, Text}
use Rattle.clap.specs.Simple.{App, new_app, new_rule, with_rule}
use Rattle.bp_cli.specs.Words.{Word, IsFileName}
use Rattle.bp_cli.specs.Tasks.{FiveNames, AreFileNames, names_and, workers_words}

-- a positional that has to be there
abbrev pub file : Text → Rule
file id = record (new_rule id) { required = true }

-- a command whose words begin behind its name
abbrev pub named : App
named = record (new_app (codes "desk")) { top = record (new_app (codes "desk")).top { no_binary_name = true } }

-- an option with a value
abbrev pub workers_rule : Rule
workers_rule = record (new_rule (codes "workers")) { long = Some (codes "workers") }

-- five files that have to be there, and the option `--workers`
abbrev pub desk_app : App
desk_app =
    with_rule (with_rule (with_rule (with_rule (with_rule (with_rule named (file (codes "hotel"))) (file (codes "stays"))) (file (codes "forecast")))
    (file (codes "bookings"))) (file (codes "script")))
    workers_rule

-- a word for the number of workers, if there is one, is no option of its own
abbrev pub IsPlainOption : Option Word → Type 0
IsPlainOption None = Unit {0}
IsPlainOption (Some word) = IsFileName word

-- the words behind `desk`
pub record DeskLine : Type 0 where
  pub names : FiveNames
  pub workers : Option Word

-- these words, one after the other
abbrev pub words_of : DeskLine → List Word
words_of line = names_and line.names (workers_words line.workers)

-- the words are plain: each name is one that a file may have, and the word for the workers is no option of its own
pub record IsPlainLine (line : DeskLine) : Type 0 where
  pub names : AreFileNames line.names
  pub workers : IsPlainOption line.workers

-- what is read of the words
pub record Gives (line : DeskLine) (hotel stays forecast bookings script workers : Option Word) : Type 0 where
  pub hotel_is : hotel ≡ Some line.names.hotel
  pub stays_is : stays ≡ Some line.names.stays
  pub forecast_is : forecast ≡ Some line.names.forecast
  pub bookings_is : bookings ≡ Some line.names.bookings
  pub script_is : script ≡ Some line.names.last
  pub workers_is : workers ≡ line.workers
