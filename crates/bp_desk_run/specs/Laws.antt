-- Laws of desk runs.
use Rattle.std.specs.Prelude.{ℕ, ◌+◌, ◌/◌, ◌≤◌, List}
use Rattle.bp_types.specs.declared.command.Command.{Command}
use Rattle.bp_types.specs.House.{Inn}
use Rattle.bp_core.specs.Lines.{History, vectors}
use Rattle.bp_desk_run.specs.DeskRun.{lead_of, IsDeskRun, IsComplete, IsClosed, IsCut, all_commands}

-- a run that was cut is not complete and closed
abbrev pub CutIsNotWhole : Type 0
CutIsNotWhole = (house : Inn) (scripts : List (List Command)) (H : History) → IsCut house scripts H → IsComplete scripts H → IsClosed H → ⊥

-- every desk run has two vectors at most, and one more for every `lead` commands of its scripts
abbrev pub VectorsAreFew : Type 0
VectorsAreFew =
    (house : Inn) (scripts : List (List Command)) (workers : ℕ) (H : History) → 1 ≤ house.limits.stale_after →
    IsDeskRun house scripts workers H → vectors H ≤ 2 + all_commands scripts / lead_of house
