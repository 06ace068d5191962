-- The rule of the list shown: one list, of which each seat has seen a first part.
use Rattle.std.specs.Prelude.{◌≡◌, ◌≢◌, ℕ, suc, ◌≤◌, true, false, List, [], ◌∷◌, ◌++◌}
use mathlib.Core.Option.{some}
use lib.ListN.{get_elem?}
use Rattle.atomic_table.specs.Table.{State, Me, Step}
use Rattle.bp_show.specs.Vectors.{Vector}
use Rattle.bp_show.specs.declared.order.Sight.{Sight}
use Rattle.bp_show.specs.Shown.{IsPrefix, EndsIn, Rises}

-- what a seat knows is so: tried gives the vector of each try up to the last
pub record Fits (tried : ℕ → Vector) (whole : List Vector) (last : ℕ) (v : Sight) : Type 0 where
  pub seen : IsPrefix v.seen whole
  pub told : IsPrefix v.told whole
  pub stamp : v.stamp ≤ last
  pub claim : (x : Vector) → v.claim ≡ x ∷ [] → tried v.stamp ≡ x
  pub leads : v.leads ≡ true → (v.seen ≡ whole) × (v.stamp ≡ last)

-- the rule: the vectors shown rise, and end in the vector of the try that the word names; every seat fits, and one at
-- most is the screen's
pub record Keeps (s : State Vector Sight) : Type 0 where
  pub tried : ℕ → Vector
  pub whole : List Vector
  pub last : ℕ
  pub word : ℕ
  pub words : s.words ≡ word ∷ []
  pub rises : Rises whole
  pub old : word ≤ last
  pub ends : EndsIn whole (tried word)
  pub each : (seat : ℕ) (v : Sight) → get_elem? s.views seat ≡ some v → Fits tried whole last v
  pub one : (i j : ℕ) (v w : Sight) → get_elem? s.views i ≡ some v → get_elem? s.views j ≡ some w → v.leads ≡ true → w.leads ≡ true → i ≡ j

-- the screen's seat at first: it has seen the first vector, whose try has the stamp 1
abbrev pub first_sight : Vector → Sight
first_sight v = record { seen = v ∷ []; told = []; stamp = 1; claim = v ∷ []; leads = true }

-- a seat that knows nothing
abbrev pub spent : Sight
spent = record { seen = []; told = []; stamp = 0; claim = []; leads = false }

-- a seat that has seen as much, and knows of no try
abbrev pub note : Sight → Sight
note v = record { seen = v.seen; told = []; stamp = 0; claim = []; leads = false }

-- a seat that knows of the try alone
abbrev pub gift : Sight → Sight
gift v = record { seen = []; told = []; stamp = v.stamp; claim = v.claim; leads = false }

-- the seat is told what the other had seen
abbrev pub told_by : Sight → Sight → Sight
told_by v w = record v { told = w.seen }

-- the seat has seen what the other had seen
abbrev pub took : Sight → Sight → Sight
took v w = record v { seen = w.seen }

-- the seat knows of the other's try
abbrev pub heard : Sight → Sight → Sight
heard v w = record v { stamp = w.stamp; claim = w.claim }

-- what a step finds of the seat that makes it, and leaves of it
abbrev pub Sat : Type 0
Sat = Me Vector Sight

-- a new try
abbrev pub Prepared : Step Vector → Sat → ℕ → Sat → Type 0
Prepared st m r m' = (x : Vector) → st.said ≡ some x → m' ≡ (record m.0 { stamp = suc m.0.stamp; claim = x ∷ [] }, m.1)

-- the vector of the try stands in the list
abbrev pub Committed : Step Vector → Sat → ℕ → Sat → Type 0
Committed st m r m' = (x : Vector) → m.0.claim ≡ x ∷ [] → m' ≡ (record m.0 { seen = m.0.seen ++ x ∷ [] }, m.1)

-- where the try that it heard of is the last that showed a vector, it has seen the whole list, which ends in that
-- vector
abbrev pub Adopted : Step Vector → Sat → ℕ → Sat → Type 0
Adopted st m r m' =
    (m' ≡ (record m.0 { seen = m'.0.seen }, m.1)) × IsPrefix m.0.seen m'.0.seen × (Rises m.0.seen → Rises m'.0.seen)
    × ((x : Vector) → m.0.claim ≡ x ∷ [] → r ≡ m.0.stamp → EndsIn m'.0.seen x)
    × (r ≢ m.0.stamp → m'.0.seen ≡ m.0.seen)

-- what it was told is a first part of its list
abbrev pub Settled : Step Vector → Sat → ℕ → Sat → Type 0
Settled st m r m' = (m' ≡ m) × IsPrefix m.0.told m.0.seen
