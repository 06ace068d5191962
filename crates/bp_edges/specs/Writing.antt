-- What a write adds to what a sink tells of its text.
use Rattle.std.specs.Prelude.{◌≡◌, ℕ, List, ◌++◌, Option, Some, Result, MatchResult}
use Rattle.std.specs.Option.{ForSome}
use Rattle.std.specs.Io.{StartsWith}

-- where the text is told, it grew by this piece
pub record Appended (before now : Option (List ℕ)) (piece : List ℕ) : Type 0 where
  pub grown : ForSome before (λ text. now ≡ Some (text ++ piece))

-- where the text is told, it grew by some first part of this piece
pub record AppendedPrefix (before now : Option (List ℕ)) (piece : List ℕ) : Type 0 where
  pub grown : ForSome before (λ text. (part : List ℕ) × StartsWith piece part × (now ≡ Some (text ++ part)))

-- the whole piece was written where the call succeeded, and a first part of it where it was refused
abbrev pub Writes : {E : Type 0} → Option (List ℕ) → Option (List ℕ) → List ℕ → Result (Unit {0}) E → Type 0
Writes before now piece result = MatchResult result (λ _. Appended before now piece) (λ _. AppendedPrefix before now piece)
