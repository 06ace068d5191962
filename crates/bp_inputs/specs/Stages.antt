-- The files of a task, one stage after another: what a file means may rest on the values of those before it.
use Rattle.std.specs.Prelude.{◌≡◌, ◌⊎◌, ℕ, ◌+◌, ◌≤◌, List, length, Option, Some, IsSome}
use Rattle.std.specs.Option.{ForSome}
use Rattle.std.specs.FinMap.{get}
use Rattle.bp_edges.specs.Held.{Files}
use Rattle.bp_text.specs.Words.{Word}
use Rattle.bp_inputs.specs.declared.cause.FileError.{FileError}

-- a file that is read: its name, how many bytes it may have, which bytes are accepted and with which value, and with
-- which error others are refused
pub record Stage : Type 1 where
  pub name : Word
  pub most : ℕ
  pub Value : Type 0
  pub Accepts : List ℕ → Value → Type 0
  pub Refuses : List ℕ → FileError → Type 0

-- files one after another, each from the values of those before it, and what they give together
pub data Plan (A : Type 0) : Type 1 where
  done : A → Plan A
  ask : (s : Stage) → (s.Value → Plan A) → Plan A

-- the files of a plan, and then those of another that rests on what it gives
abbrev pub followed_by : {A B : Type 0} → Plan A → (A → Plan B) → Plan B
followed_by (done a) next = next a
followed_by (ask s rest) next = ask s (λ v. followed_by (rest v) next)

-- one file
abbrev pub one : (s : Stage) → Plan s.Value
one s = ask s (λ v. done v)

-- the bytes are no more than the file may have, and where the shelf tells, it holds them under the name
pub record IsRead (held : Option Files) (name : Word) (most : ℕ) (bytes : List ℕ) : Type 0 where
  pub short : length bytes ≤ most
  pub told : ForSome held (λ files. get files name ≡ Some bytes)

-- the file was read with this value
pub record IsReadAs (held : Option Files) (s : Stage) (v : s.Value) : Type 0 where
  pub bytes : List ℕ
  pub is_read : IsRead held s.name s.most bytes
  pub accepted : s.Accepts bytes v

-- the plan's files, from the one with the number `first` on, were read and gave this; `next` is the number behind them
abbrev pub Gives : {A : Type 0} → Option Files → Plan A → ℕ → ℕ → A → Type 0
Gives held (done x) first next a = (x ≡ a) × (first ≡ next)
Gives held (ask s rest) first next a = (v : s.Value) × IsReadAs held s v × Gives held (rest v) (first + 1) next a

-- P holds of the file with the number k of the plan, whose first file has the number `first`, and each file before it
-- was read
abbrev pub ComesAt : {A : Type 0} → Option Files → (Stage → Type 0) → Plan A → ℕ → ℕ → Type 0
ComesAt held P (done x) first k = ⊥
ComesAt held P (ask s rest) first k =
    ((k ≡ first) × P s) ⊎ ((v : s.Value) × IsReadAs held s v × ComesAt held P (rest v) (first + 1) k)

-- each file that the plan comes to is there
abbrev pub HoldsFiles : {A : Type 0} → Files → Plan A → Type 0
HoldsFiles files (done x) = Unit {0}
HoldsFiles files (ask s rest) =
    IsSome (get files s.name) × ((v : s.Value) → IsReadAs (Some files) s v → HoldsFiles files (rest v))

-- each file that the plan comes to is held, short enough and accepted, and Q holds of what they give together
abbrev pub AreGood : {A : Type 0} → Files → (A → Type 0) → Plan A → Type 0
AreGood files Q (done x) = Q x
AreGood files Q (ask s rest) = (v : s.Value) × IsReadAs (Some files) s v × AreGood files Q (rest v)

-- the bytes of a file are read in one way: with one value, or refused
pub record IsReadOneWay (s : Stage) : Type 0 where
  pub one_value : (bytes : List ℕ) (v w : s.Value) → s.Accepts bytes v → s.Accepts bytes w → v ≡ w
  pub not_both : (bytes : List ℕ) (v : s.Value) (e : FileError) → s.Accepts bytes v → s.Refuses bytes e → ⊥

-- so is each file of a plan
abbrev pub AreReadOneWay : {A : Type 0} → Plan A → Type 0
AreReadOneWay (done x) = Unit {0}
AreReadOneWay (ask s rest) = IsReadOneWay s × ((v : s.Value) → AreReadOneWay (rest v))
