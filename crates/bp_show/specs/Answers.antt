-- What a follow and a look answer.
use Rattle.std.specs.Prelude.{◌≡◌, ◌<◌, ◌≤◌, List, [], ◌∷◌, ◌++◌}
use Rattle.bp_types.specs.declared.stay.Span.{Span}
use Rattle.bp_types.specs.Program.{price}
use Rattle.bp_show.specs.declared.screen.Follow.{Follow}
use Rattle.bp_show.specs.declared.screen.Follow.TheVariants.{Shown, Same}
use Rattle.bp_show.specs.declared.view.Look.{Look}
use Rattle.bp_show.specs.Vectors.{Vector}
use Rattle.bp_show.specs.Shown.{EndsIn, number_shown}

-- what a screen has shown after a follow: a newer vector too, or what it had shown where the vector is not newer
abbrev pub Followed : List Vector → Vector → List Vector → Follow → Type 0
Followed old v new (Shown number) = (number_shown old < v.number) × (number ≡ v.number) × (new ≡ old ++ v ∷ [])
Followed old v new (Same number) = (v.number ≤ number_shown old) × (number ≡ number_shown old) × (new ≡ old)

-- the look answers by the last of the vectors seen
abbrev pub Answers : List Vector → Span → Look → Type 0
Answers seen span look =
    (v : Vector) × EndsIn seen v × (look.number ≡ v.number) × (look.position ≡ v.position) × (look.sum ≡ price v.prices span)
