-- How many searches it takes to catch up.
use Rattle.std.specs.Prelude.{◌≡◌, ℕ, ◌+◌, length}
use Rattle.bp_types.specs.House.{Inn}
use Rattle.bp_types.specs.Changes.{changed_by_all}
use Rattle.bp_flow.specs.Solvers.{CountsSearches}
use Rattle.bp_warm.specs.Turns.{units_moved_by_all}
use Rattle.bp_core.specs.Lines.{History}
use Rattle.bp_core.specs.Instance.{instance_at}
use Rattle.bp_core.specs.Changes.{deltas_between}
use Rattle.bp_optimise.specs.Following.{Optimising}

-- the units that the changes between two positions move, and one for each of these changes
abbrev pub most_searches : Inn → History → ℕ → ℕ → ℕ
most_searches house seen from to =
    units_moved_by_all (instance_at house seen from) (deltas_between house seen from to) + length (deltas_between house seen from to)

-- the changes between two positions make of the one instance the other
abbrev pub LeadOn : Inn → History → ℕ → ℕ → Type 0
LeadOn house seen from to = changed_by_all (instance_at house seen from) (deltas_between house seen from to) ≡ instance_at house seen to

-- the counter has counted just the searches that the optimiser made, so many at most
abbrev pub CountsCatchingUp : Inn → History → ℕ → ℕ → Optimising → Optimising → Type 0
CountsCatchingUp house seen steps_old steps_new old new =
    CountsSearches steps_old steps_new old.solver.served new.solver.served (most_searches house seen old.position new.position)
