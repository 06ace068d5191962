-- How bytes pass from a reader to a list.
use Rattle.std.specs.Prelude.{◌≡◌, ℕ, List, ◌++◌, Option}
use Rattle.std.specs.Io.KnownBytes.{Consumes}

-- some first bytes of what the reader had, where it tells, are now behind those of the list
pub record TakesOver (had has : Option (List ℕ)) (old new : List ℕ) : Type 0 where
  pub came : List ℕ
  pub behind : new ≡ old ++ came
  pub consumed : Consumes had has came
