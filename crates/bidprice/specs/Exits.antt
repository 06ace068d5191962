-- The status that the program ends with.
use Rattle.std.specs.Prelude.{◌≡◌, ◌⊎◌, ℕ, List}
use Rattle.bp_cli.specs.Words.{Word}
use Rattle.bp_run.specs.Statuses.{status_number}
use Rattle.bp_run.specs.Ends.{ServesUnseen}
use Rattle.bp_run.specs.declared.status.Status.TheVariants.{NotPlain, NoMemory}

-- some line of words is served with this status, or the system gave none: they are no text, or there is no memory for
-- them
abbrev pub IsExit : ℕ → Type 0
IsExit number =
    ((words : List Word) × ServesUnseen words number) ⊎ (number ≡ status_number NotPlain) ⊎ (number ≡ status_number NoMemory)
