-- Why the files of a task give no value, and what a call says that reads them.
use Rattle.std.specs.Prelude.{◌≡◌, ℕ, List, Result, Ok, Err}
use Rattle.std.specs.Option.{ForSome}
use Rattle.bp_text.specs.Words.{Word}
use Rattle.bp_inputs.specs.Stages.{Plan, Gives, ComesAt, HoldsFiles}
use Rattle.bp_inputs.specs.Fetches.{Fetches, Leaves, Fails, IsTooLong, IsRefusedFor}
use Rattle.bp_inputs.specs.declared.cause.Cause.TheVariants.{TooLong, Reader}
use Rattle.bp_inputs.specs.declared.unread.Unread.{Unread}
use Rattle.bp_inputs.specs.declared.unread.Unread.TheVariants.{Memory as NoMemory, Refused as NotTaken}
use Rattle.bp_inputs.specs.declared.stop.Stop.{Stop}
use Rattle.bp_inputs.specs.declared.stop.Stop.TheVariants.{Memory, Fault, Refused}

-- the shelf gave no bytes of the file with this name and this number
abbrev pub GivesNone : Fetches → Word → ℕ → ℕ → Stop → Type 0
GivesNone shelf name most number Memory = Unit {0}
GivesNone shelf name most number (Fault k) = (k ≡ number) × Fails shelf name
GivesNone shelf name most number (Refused k TooLong) = (k ≡ number) × IsTooLong shelf name most
GivesNone shelf name most number (Refused k (Reader e)) = ⊥

-- one of the plan's files gave no value, and every file before it did
abbrev pub StopsIn : {A : Type 0} → Fetches → Plan A → ℕ → Stop → Type 0
StopsIn shelf plan first Memory = Unit {0}
StopsIn shelf plan first (Fault k) = ComesAt shelf.before.held (λ s. Fails shelf s.name) plan first k
StopsIn shelf plan first (Refused k cause) = ComesAt shelf.before.held (IsRefusedFor shelf cause) plan first k

-- the shelf failed
abbrev pub IsFault : Stop → Type 0
IsFault Memory = ⊥
IsFault (Fault k) = Unit {0}
IsFault (Refused k cause) = ⊥

-- what the plan's files gave, or why one gave no value
abbrev pub Answers : {A : Type 0} → Fetches → Plan A → ℕ → ℕ → Result A Stop → Type 0
Answers shelf plan first next (Ok a) = Gives shelf.before.held plan first next a
Answers shelf plan first next (Err stop) = StopsIn shelf plan first stop

-- a list in the place of an Ok that says nothing
abbrev pub of_all : {A : Type 0} → List A → Result (Unit {0}) Stop → Result (List A) Stop
of_all all (Ok nothing) = Ok all
of_all all (Err stop) = Err stop

-- a steady shelf that holds the plan's files does not fail
abbrev pub NeverFails : {A : Type 0} → Fetches → Plan A → Stop → Type 0
NeverFails shelf plan stop =
    shelf.before.steady → ForSome shelf.before.held (λ files. HoldsFiles files plan → IsFault stop → ⊥)

-- so it is, where a call stopped
abbrev pub FailsNever : {A : Type 0} → Fetches → Plan A → Result A Stop → Type 0
FailsNever shelf plan (Ok a) = Unit {0}
FailsNever shelf plan (Err stop) = NeverFails shelf plan stop

-- what a call says that reads the files of a plan: they have the numbers from `first` up to, and not with, `next`
pub record Follows {A : Type 0} (shelf : Fetches) (plan : Plan A) (first next : ℕ) (result : Result A Stop) : Type 0 where
  pub answers : Answers shelf plan first next result
  pub unfailing : FailsNever shelf plan result
  pub leaves : Leaves shelf

-- the file with this number is refused by its reader, or the reader had no memory
abbrev pub stop_by_reader : ℕ → Unread → Stop
stop_by_reader file NoMemory = Memory
stop_by_reader file (NotTaken error) = Refused file (Reader error)
