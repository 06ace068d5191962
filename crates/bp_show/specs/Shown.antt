-- The list of vectors that were shown.
use Rattle.std.specs.Prelude.{◌≡◌, ℕ, ◌<◌, List, [], ◌∷◌, ◌++◌, length}
use Rattle.bp_show.specs.Vectors.{Vector}

-- the whole list begins with the part
abbrev pub IsPrefix : List Vector → List Vector → Type 0
IsPrefix part whole = (rest : List Vector) × (whole ≡ part ++ rest)

-- the list ends in this vector
abbrev pub EndsIn : List Vector → Vector → Type 0
EndsIn shown v = (before : List Vector) × (shown ≡ before ++ v ∷ [])

-- every vector has a number above that of the one before it, the first one above v's, and as many nights as v
abbrev pub RisesFrom : Vector → List Vector → Type 0
RisesFrom v [] = Unit {0}
RisesFrom v (w ∷ ws) = (v.number < w.number) × (length w.prices ≡ length v.prices) × RisesFrom w ws

-- every vector has a number above that of the one before it, and as many nights
abbrev pub Rises : List Vector → Type 0
Rises [] = Unit {0}
Rises (v ∷ vs) = RisesFrom v vs

-- the number of the last vector, or else n
abbrev pub number_or : ℕ → List Vector → ℕ
number_or n [] = n
number_or n (v ∷ vs) = number_or v.number vs

-- the number of the last vector
abbrev pub number_shown : List Vector → ℕ
number_shown shown = number_or 0 shown
