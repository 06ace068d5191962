-- Which words are served, which tasks one thread can do, and which commands may start threads.
use Rattle.std.specs.Prelude.{◌≡◌, ◌⊎◌, ℕ, List, [], ◌∷◌, codes}
use Rattle.bp_cli.specs.Words.{Word}
use Rattle.bp_cli.specs.Tasks.{Task, FiveNames, check, solve, group, judge, desk, replay, report, demo, scenarios, sheet, portfolio, Asks}

-- one thread can do what the task asks for
abbrev pub IsPlainTask : Task → Type 0
IsPlainTask (check problem certificate) = Unit {0}
IsPlainTask (solve problem) = Unit {0}
IsPlainTask (group problem from to rooms) = Unit {0}
IsPlainTask (judge problem journal) = Unit {0}
IsPlainTask (desk names workers) = ⊥
IsPlainTask (replay names) = Unit {0}
IsPlainTask (report names) = Unit {0}
IsPlainTask (demo seed nights rooms stays) = Unit {0}
IsPlainTask (scenarios problem changes) = Unit {0}
IsPlainTask (sheet problem) = Unit {0}
IsPlainTask (portfolio list workers) = ⊥

-- the task is that of a desk
abbrev pub IsDesk : Task → Type 0
IsDesk task = (names : FiveNames) × (workers : ℕ) × (task ≡ desk names workers)

-- the task is that of scenarios
abbrev pub AreScenarios : Task → Type 0
AreScenarios task = (problem : Word) × (changes : Word) × (task ≡ scenarios problem changes)

-- the task is that of a portfolio
abbrev pub IsPortfolio : Task → Type 0
IsPortfolio task = (list : Word) × (workers : ℕ) × (task ≡ portfolio list workers)

-- the words ask for some task: they are a plain line
abbrev pub AreServed : List Word → Type 0
AreServed words = (task : Task) × Asks words task

-- the commands that may start threads
abbrev pub NamesThreads : Word → Type 0
NamesThreads command = (command ≡ codes "desk") ⊎ (command ≡ codes "scenarios") ⊎ (command ≡ codes "portfolio")

-- the first word is one of them
abbrev pub MayStartThreads : List Word → Type 0
MayStartThreads [] = ⊥
MayStartThreads (first ∷ rest) = NamesThreads first
