-- Flows whose prices are the least optimal ones.
use Rattle.std.specs.Prelude.{◌≡◌, ℕ, ◌-◌, ◌≤◌, ◌<◌, List, slice_index, All}
use Rattle.bp_types.specs.Program.{Program}
use Rattle.bp_types.specs.Optimum.{IsOptimum, AreLeastPrices}
use Rattle.bp_residual.specs.Network.{Priced, prices_of, greatest_rate}
use Rattle.bp_flow.specs.Solving.{Solving, priced}

-- the prices are the least optimal ones
abbrev pub IsSettledFlow : Priced → Type 0
IsSettledFlow p = AreLeastPrices p.flow.program (prices_of p)

-- the same of the flow of a solver
abbrev pub IsSettled : Solving → Type 0
IsSettled s = IsSettledFlow (priced s)

-- the program has an optimum, and exactly one list of least prices, none of them above the greatest rate
pub record IsSolvable (p : Program) : Type 0 where
  pub value : ℕ
  pub optimum : IsOptimum p value
  pub prices : List ℕ
  pub least : AreLeastPrices p prices
  pub only : (others : List ℕ) → AreLeastPrices p others → others ≡ prices
  pub within_rates : All (λ x. x ≤ greatest_rate p) prices

-- the raises that lower each potential by its distance to the last node
abbrev pub AreFalls : List ℕ → ℕ → List ℕ → ℕ → Type 0
AreFalls distances top by count = (v : ℕ) → v < count → slice_index by v ≡ top - slice_index distances v
