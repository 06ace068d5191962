-- The desks of several hotels, before they run and afterwards.
use Rattle.std.specs.Prelude.{◌≡◌, ℕ, ◌≤◌, List, [], ◌∷◌, Some, IsSome, IsSomeAnd, IfOk, Ok}
use Rattle.bp_types.specs.declared.limits.TheConstants.{MOST_WORKERS}
use Rattle.bp_desk_run.specs.declared.callers.Ran.{Ran}
use Rattle.bp_desk_run.specs.RightRun.{Staged, IsRightRun}
use Rattle.bp_portfolio.specs.declared.crew.DeskSite.{DeskSite}

-- there is something to run, with no more workers than there may be
abbrev pub IsToRun : DeskSite → Type 0
IsToRun s = IsSome s.staged × (s.workers ≤ MOST_WORKERS)

-- it has run
abbrev pub IsOver : DeskSite → Type 0
IsOver s = IsSome s.outcome

-- what came of it is right for what it was to run, or there was no memory
abbrev pub HasEnded : ℕ → Staged → DeskSite → Type 0
HasEnded workers g s = IsSomeAnd s.outcome (λ r. IfOk r (IsRightRun workers g))

-- there is a desk for each hotel, with so many workers
abbrev pub AreToRun : ℕ → List Staged → List DeskSite → Type 0
AreToRun workers [] [] = Unit {0}
AreToRun workers [] (s ∷ sites) = ⊥
AreToRun workers (g ∷ hotels) [] = ⊥
AreToRun workers (g ∷ hotels) (s ∷ sites) = (s.staged ≡ Some g) × (s.workers ≡ workers) × AreToRun workers hotels sites

-- these are what came of them, each of which found memory
abbrev pub AreRunsOf : List DeskSite → List Ran → Type 0
AreRunsOf [] [] = Unit {0}
AreRunsOf [] (ran ∷ runs) = ⊥
AreRunsOf (s ∷ sites) [] = ⊥
AreRunsOf (s ∷ sites) (ran ∷ runs) = (s.outcome ≡ Some (Ok ran)) × AreRunsOf sites runs
