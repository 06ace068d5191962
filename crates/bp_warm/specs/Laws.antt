-- Laws over the definitions.
use Rattle.std.specs.Prelude.{◌≡◌, ◌+◌, List, ◌++◌}
use Rattle.bp_types.specs.declared.change.Change.{Change}
use Rattle.bp_types.specs.Program.{Program}
use Rattle.bp_types.specs.Changes.{changed_by_all}
use Rattle.bp_warm.specs.Turns.{units_moved_by_all}

-- two lists move what one list of them all moves
abbrev pub UnitsAppend : Type 0
UnitsAppend =
    (p : Program) (first second : List Change) →
    units_moved_by_all p (first ++ second) ≡ units_moved_by_all p first + units_moved_by_all (changed_by_all p first) second
