-- What a shelf holds, and what it remembers of its newest fetch.
use Rattle.std.specs.Prelude.{ℕ, Bool, false, List, [], Option, None, Some, String, string_bytes}
use Rattle.std.specs.declared.alloc.Global.{Global}
use Rattle.std.specs.Ordering.{nat_cmp}
use Rattle.std.specs.Cmp.Lexicographic.{slice_cmp}
use Rattle.std.specs.FinMap.{FinMap}

-- files by name: a finite map from the bytes of names to bytes
abbrev pub Files : Type 0
Files = FinMap (slice_cmp nat_cmp) (List ℕ)

-- one fetch: the name it asked for, how many bytes it took, and whether it answered Failed
pub record Fetch : Type 0 where
  pub name : List ℕ
  pub taken : ℕ
  pub failed : Bool

-- what a new shelf remembers
abbrev pub no_fetch : Fetch
no_fetch = record { name = []; taken = 0; failed = false }

-- the bytes of a name that may not be there yet
abbrev pub name_bytes : Option (String Global) → List ℕ
name_bytes None = []
name_bytes (Some name) = string_bytes name
