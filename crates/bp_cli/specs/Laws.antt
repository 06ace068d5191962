-- Laws of words.
use Rattle.std.specs.Prelude.{◌≡◌, List}
use Rattle.bp_cli.specs.Words.{Word}
use Rattle.bp_cli.specs.Tasks.{Task, Asks}

-- words ask for one task at most
abbrev pub TasksAreUnique : Type 0
TasksAreUnique = (words : List Word) (t u : Task) → Asks words t → Asks words u → t ≡ u
