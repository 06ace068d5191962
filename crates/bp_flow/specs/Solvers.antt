-- What a solver keeps between calls, and what its calls change.
use Rattle.std.specs.Prelude.{◌≡◌, ℕ, ◌+◌, ◌-◌, ◌≤◌, ◌<◌, Bool, if◌then◌else◌, List, length, slice_index, slice_set}
use Rattle.bp_types.specs.Program.{Program, stay_at}
use Rattle.bp_types.specs.Changes.{with_forecast}
use Rattle.bp_residual.specs.Network.{Priced, IsPriced, IsSlack, IsBalanced}
use Rattle.bp_paths.specs.Paths.{Serves}
use Rattle.bp_flow.specs.Solving.{Solving, priced}
use Rattle.bp_flow.specs.Settled.{IsSettled}

-- the flow carries exactly the rooms, and no residual step has a negative reduced cost
pub record IsSolvedFlow (p : Priced) : Type 0 where
  pub priced : IsPriced p
  pub balanced : IsBalanced p.flow
  pub slack : IsSlack p.flow (slice_index p.potentials)

-- the same of the flow of a solver
abbrev pub IsSolved : Solving → Type 0
IsSolved s = IsSolvedFlow (priced s)

-- an optimal flow of the program with the least prices
pub record IsSolverOf (program : Program) (s : Solving) : Type 0 where
  pub solved : IsSolved s
  pub settled : IsSettled s
  pub solves : s.flow.program ≡ program

-- the flow carries exactly its own rooms, on the program's stays and nights
pub record IsCarrying (program : Program) (p : Priced) : Type 0 where
  pub balanced : IsBalanced p.flow
  pub stays : p.flow.program.stays ≡ program.stays
  pub each : length p.flow.program.rooms ≡ length program.rooms

-- the rooms of the nights below a night are the program's
pub record ColdSoFar (program : Program) (night : ℕ) (p : Priced) : Type 0 where
  pub solved : IsSolvedFlow p
  pub stays : p.flow.program.stays ≡ program.stays
  pub each : length p.flow.program.rooms ≡ length program.rooms
  pub done : (n : ℕ) → n < night → slice_index p.flow.program.rooms n ≡ slice_index program.rooms n

-- how many rooms a night lacks, or (not `up`) has too many
abbrev pub lacking : Bool → ℕ → ℕ → ℕ
lacking up has wants = if up then wants - has else has - wants

-- the same of a night by its number
abbrev pub lack_at : Bool → List ℕ → List ℕ → ℕ → ℕ
lack_at up has wants n = lacking up (slice_index has n) (slice_index wants n)

-- each night from one up to another lacks so many of the program's rooms, or more; or has so many too many
pub record IsShortage (program : Program) (rooms : List ℕ) (up : Bool) (from to units : ℕ) : Type 0 where
  pub some_night : from < to
  pub in_range : to ≤ length program.rooms
  pub some_units : 1 ≤ units
  pub each : (n : ℕ) → from ≤ n → n < to → units ≤ lack_at up rooms program.rooms n

-- the night is past the last one, or lacks no rooms; or has none too many
abbrev pub HasAll : Bool → List ℕ → List ℕ → ℕ → Type 0
HasAll up wanted rooms night = night < length wanted → lack_at up rooms wanted night ≡ 0

-- one stay has another forecast and another sold number, and nothing else changed
pub record SetsDemand (old new : Priced) (stay forecast units : ℕ) : Type 0 where
  pub stays : new.flow.program.stays ≡ slice_set old.flow.program.stays stay (with_forecast (stay_at old.flow.program stay) forecast)
  pub rooms : new.flow.program.rooms ≡ old.flow.program.rooms
  pub sell : new.flow.sell ≡ slice_set old.flow.sell stay units
  pub spare : new.flow.spare ≡ old.flow.spare
  pub potentials : new.potentials ≡ old.potentials

-- how far two numbers lie apart
abbrev pub difference : ℕ → ℕ → ℕ
difference a b = (a - b) + (b - a)

-- a counter has counted so many steps at most
abbrev pub CountsUpTo : ℕ → ℕ → ℕ → Type 0
CountsUpTo old new most = (old ≤ new) × (new ≤ old + most)

-- it has counted just the searches that a scratch served
abbrev pub CountsServed : ℕ → ℕ → ℕ → ℕ → Type 0
CountsServed old new served_old served_new = (old ≤ new) × Serves served_old served_new (new - old)

-- it has counted just the searches that a scratch served, so many at most
abbrev pub CountsSearches : ℕ → ℕ → ℕ → ℕ → ℕ → Type 0
CountsSearches old new served_old served_new most = CountsUpTo old new most × Serves served_old served_new (new - old)
