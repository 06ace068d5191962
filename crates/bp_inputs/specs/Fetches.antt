-- What a shelf holds and counts over a call, and what follows for one file.
use Rattle.std.specs.Prelude.{◌≡◌, ℕ, ◌<◌, ◌≤◌, List, length, true, Option, IsSomeAnd}
use Rattle.std.specs.Option.{ForSome}
use Rattle.std.specs.FinMap.{get}
use Rattle.bp_edges.specs.Counts.{Rose}
use Rattle.bp_edges.specs.Held.{Files, Fetch}
use Rattle.bp_text.specs.Words.{Word}
use Rattle.bp_inputs.specs.Stages.{Stage, IsRead}
use Rattle.bp_inputs.specs.declared.cause.Cause.{Cause}
use Rattle.bp_inputs.specs.declared.cause.Cause.TheVariants.{TooLong, Reader}

-- what a shelf tells at one moment: what it holds, its counts, its newest fetch, and that none of its files fails
pub record Shelved : Type 1 where
  pub held : Option Files
  pub faults : ℕ
  pub fetches : ℕ
  pub last : Fetch
  pub steady : Type 0

-- the moments before a call and after it
pub record Fetches : Type 1 where
  pub before : Shelved
  pub now : Shelved

-- the same, by what a shelf tells
abbrev pub over : {S : Type 0} → (S → Option Files) → (S → ℕ) → (S → ℕ) → (S → Fetch) → (S → Type 0) → S → S → Fetches
over held faults fetches last steady old new = record {
  before = record { held = held old; faults = faults old; fetches = fetches old; last = last old; steady = steady old };
  now = record { held = held new; faults = faults new; fetches = fetches new; last = last new; steady = steady new };
}

-- what every call leaves: what is held stays, so does that nothing fails, and no count goes back
pub record Leaves (shelf : Fetches) : Type 0 where
  pub held : shelf.now.held ≡ shelf.before.held
  pub steady : shelf.before.steady → shelf.now.steady
  pub faults : shelf.before.faults ≤ shelf.now.faults
  pub fetches : shelf.before.fetches ≤ shelf.now.fetches

-- the shelf failed at the file with this name: its faults rose, and its newest fetch is of this file and failed
pub record Fails (shelf : Fetches) (name : Word) : Type 0 where
  pub rose : Rose shelf.before.faults shelf.now.faults
  pub named : shelf.now.last.name ≡ name
  pub failed : shelf.now.last.failed ≡ true

-- the file is too long: so it is where that is told, and more of it was taken
pub record IsTooLong (shelf : Fetches) (name : Word) (most : ℕ) : Type 0 where
  pub told : ForSome shelf.before.held (λ held. IsSomeAnd (get held name) (λ bytes. most < length bytes))
  pub rose : Rose shelf.before.fetches shelf.now.fetches
  pub named : shelf.now.last.name ≡ name
  pub more : most < shelf.now.last.taken

-- this file is refused: it is too long, or short enough and refused by its reader
abbrev pub IsRefusedFor : Fetches → Cause → Stage → Type 0
IsRefusedFor shelf TooLong s = IsTooLong shelf s.name s.most
IsRefusedFor shelf (Reader e) s = (bytes : List ℕ) × IsRead shelf.before.held s.name s.most bytes × s.Refuses bytes e
