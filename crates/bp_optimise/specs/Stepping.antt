-- What one step of a worker did.
use Rattle.std.specs.Prelude.{◌≡◌, ℕ, Bool, true, false}
use Rattle.bp_desk.specs.Passes.{PassState}
use Rattle.bp_desk.specs.Calling.{HasRead}
use Rattle.bp_optimise.specs.Following.{AddsTurns}
use Rattle.bp_optimise.specs.Works.{HaveLeft, AddsSettled}
use Rattle.bp_optimise.specs.declared.worker.Next.{Next}
use Rattle.bp_optimise.specs.declared.worker.Next.TheVariants.{Leaves, Rounds, NoMemory}

-- whatever turns the pass had before: where they were turns of histories of which it had seen as much, they are settled
-- now
abbrev pub SettlesAll : ℕ → ℕ → PassState → PassState → Type 0
SettlesAll sessions lead old new = (first : PassState) → AddsTurns first old → AddsSettled sessions lead first new

-- what the step did, by what comes next
abbrev pub IsStep : ℕ → ℕ → Bool → PassState → PassState → Next → Type 0
IsStep sessions lead superseded old new Leaves = (superseded ≡ false) × HasRead old new × HaveLeft new.seen sessions
IsStep sessions lead superseded old new (Rounds true) = Unit {0}
IsStep sessions lead superseded old new (Rounds false) = SettlesAll sessions lead old new
IsStep sessions lead superseded old new NoMemory = Unit {0}
