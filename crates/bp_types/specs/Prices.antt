-- Sums of prices to the last night.
use Rattle.std.specs.Prelude.{◌≡◌, ℕ, ◌≤◌, List, length, slice_index}
use Rattle.bp_types.specs.Optimum.{price_from}

-- the sum at each night is that of the prices from it to the last one
abbrev pub SumUp : List ℕ → List ℕ → Type 0
SumUp prices sums = (n : ℕ) → n ≤ length prices → slice_index sums n ≡ price_from prices n
