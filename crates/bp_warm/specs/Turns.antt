-- Changes that are made one after another, and what they move.
use Rattle.std.specs.Prelude.{◌≡◌, ℕ, ◌+◌, ◌-◌, ◌*◌, ◌≤◌, List, [], ◌∷◌}
use Rattle.bp_types.specs.declared.change.Change.{Change}
use Rattle.bp_types.specs.declared.change.Change.TheVariants.{Rooms, Demand, Rate}
use Rattle.bp_types.specs.Program.{Program, stay_at}
use Rattle.bp_types.specs.Changes.{changed, changed_by_all, FitInTurn}
use Rattle.bp_flow.specs.Solvers.{difference}

-- how many units a change of the program moves at most
abbrev pub units_moved : Program → Change → ℕ
units_moved p (Rooms span up units) = units
units_moved p (Demand stay value) = difference (stay_at p stay).forecast value
units_moved p (Rate stay value) = 2 * (stay_at p stay).forecast

-- the sum of what the changes move, each of the program that it comes to
abbrev pub units_moved_by_all : Program → List Change → ℕ
units_moved_by_all p [] = 0
units_moved_by_all p (c ∷ cs) = units_moved p c + units_moved_by_all (changed p c) cs

-- the changes that are left fit, and lead to the program that is wanted
pub record IsOnWay (start : Program) (all : List Change) (here : Program) (left : List Change) : Type 0 where
  pub leads : changed_by_all here left ≡ changed_by_all start all
  pub fit : FitInTurn here left
  pub fewer : units_moved_by_all here left ≤ units_moved_by_all start all

-- what the changes that were made have moved at most
abbrev pub moved_so_far : Program → List Change → Program → List Change → ℕ
moved_so_far start all here left = units_moved_by_all start all - units_moved_by_all here left
