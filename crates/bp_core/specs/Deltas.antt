-- The changes that one entry keeps, as a list.
use Rattle.std.specs.Prelude.{List, [], ◌∷◌}
use Rattle.bp_types.specs.declared.change.Change.{Change}
use Rattle.bp_core.specs.declared.deltas.Deltas.{Deltas}
use Rattle.bp_core.specs.declared.deltas.Deltas.TheVariants.{None, One, Two}

-- none, one or two changes, in order
abbrev pub delta_list : Deltas → List Change
delta_list None = []
delta_list (One change) = change ∷ []
delta_list (Two first second) = first ∷ second ∷ []
