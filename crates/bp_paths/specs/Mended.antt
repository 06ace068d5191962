-- Distances to a node that were guessed, and what a test of them shows.
use Rattle.std.specs.Prelude.{◌≡◌, ℕ, ◌+◌, ◌≤◌, ◌<◌, List, slice_index}
use Rattle.bp_residual.specs.declared.hop.Hop.{Hop}
use Rattle.bp_residual.specs.Network.{Priced, Step, tail, head, Admits, step_of}
use Rattle.bp_paths.specs.Paths.{far}
use Rattle.bp_paths.specs.Labels.{cost}

-- no residual step from the node leads to one that is nearer by more than its cost
abbrev pub GrowsFrom : Priced → List ℕ → ℕ → Type 0
GrowsFrom p kept v = (s : Step) → Admits p.flow s 1 → tail p.flow.program s ≡ v → slice_index kept v ≤ cost p s + slice_index kept (head p.flow.program s)

-- the hop leads from the node to one of a smaller rank, which is nearer by its cost
pub record LeadsFrom (p : Priced) (kept ranks : List ℕ) (v : ℕ) (h : Hop) : Type 0 where
  pub leaves : tail p.flow.program (step_of p.flow.program h) ≡ v
  pub admits : Admits p.flow (step_of p.flow.program h) 1
  pub adds : slice_index kept v ≡ cost p (step_of p.flow.program h) + slice_index kept (head p.flow.program (step_of p.flow.program h))
  pub falls : slice_index ranks (head p.flow.program (step_of p.flow.program h)) < slice_index ranks v

-- a hop leads on from the node
abbrev pub LeadsOn : Priced → List ℕ → List ℕ → ℕ → Type 0
LeadsOn p kept ranks v = (h : Hop) × LeadsFrom p kept ranks v h

-- the number kept for the node is its distance, if those of all others are theirs
pub record IsRightAt (p : Priced) (to : ℕ) (kept ranks : List ℕ) (v : ℕ) : Type 0 where
  pub near : slice_index kept v < far
  pub grows : GrowsFrom p kept v
  pub leads : (v ≡ to → ⊥) → LeadsOn p kept ranks v
