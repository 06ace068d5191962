-- The desks of hotels beside one another: what they may run, and what is said of all of them. What is said of one is
-- `IsRightRun` of the crate `bp_desk_run`.
use Rattle.std.specs.Prelude.{ℕ, ◌+◌, ◌*◌, ◌≤◌, List, [], ◌∷◌, length, All}
use Rattle.bp_types.specs.declared.limits.TheConstants.{CALLERS, MOST_SESSIONS}
use Rattle.bp_optimise.specs.Sessions.{AreInRange}
use Rattle.bp_desk_run.specs.DeskRun.{HasRoomFor, all_commands}
use Rattle.bp_desk_run.specs.RightRun.{Staged, IsRightRun}
use Rattle.bp_desk_run.specs.declared.callers.Ran.{Ran}

-- there are not too many sessions, and what they ask is in range of the house
pub record CanRun (g : Staged) : Type 0 where
  pub few : length g.scripts ≤ MOST_SESSIONS
  pub range : All (AreInRange g.house) g.scripts

-- the number with which a caller of the hotel with this index, from 0, arrives at the gate
abbrev pub number_at_gate : ℕ → ℕ → ℕ
number_at_gate hotel caller = CALLERS * hotel + caller

-- each hotel's run is right for its own house, script and workers, and there is one for each
abbrev pub AreRightRuns : ℕ → List Staged → List Ran → Type 0
AreRightRuns workers [] [] = Unit {0}
AreRightRuns workers [] (ran ∷ runs) = ⊥
AreRightRuns workers (g ∷ hotels) [] = ⊥
AreRightRuns workers (g ∷ hotels) (ran ∷ runs) = IsRightRun workers g ran × AreRightRuns workers hotels runs

-- each house has room for its script
abbrev pub HaveRoom : List Staged → Type 0
HaveRoom [] = Unit {0}
HaveRoom (g ∷ hotels) = HasRoomFor g.house (all_commands g.scripts) × HaveRoom hotels
