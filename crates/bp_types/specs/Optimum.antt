-- Feasible allocations, certificates, the optimum and the least prices.
--
-- Certificates are of whole numbers. A stay takes nights in a row, so the matrix of the program has consecutive ones in
-- each column; such an interval matrix is totally unimodular, and a program of whole numbers then has a whole optimal
-- allocation and whole optimal prices. No definition here assumes it.
use Rattle.std.specs.Prelude.{◌≡◌, ℕ, ◌+◌, ◌*◌, ◌-◌, ◌≤◌, ◌<◌, List, length, slice_index, All, EachIndex}
use Rattle.bp_types.specs.declared.limits.TheConstants.{MOST_PRICE}
use Rattle.bp_types.specs.Program.{Program, stay_at, load, worth, bound}
use Rattle.bp_types.specs.Sums.{sum_below}

-- sell stands for the fractional allocation sell / scale: no stay above its forecast, no night above its rooms
pub record IsFeasibleAtScale (p : Program) (scale : ℕ) (sell : List ℕ) : Type 0 where
  pub one_each : length sell ≡ length p.stays
  pub within_forecast : EachIndex p.stays (λ j. slice_index sell j ≤ scale * (stay_at p j).forecast)
  pub within_rooms : EachIndex p.rooms (λ n. load p sell n ≤ scale * slice_index p.rooms n)

-- no stay above its forecast, no night above its rooms
abbrev pub IsFeasible : Program → List ℕ → Type 0
IsFeasible p sell = IsFeasibleAtScale p 1 sell

-- an allocation and prices of one value
pub record Certifies (p : Program) (value : ℕ) (sell prices : List ℕ) : Type 0 where
  pub feasible : IsFeasible p sell
  pub one_each : length prices ≡ length p.rooms
  pub within_limit : All (λ x. x ≤ MOST_PRICE) prices
  pub worth_is : worth p sell ≡ value
  pub bound_is : bound p prices ≡ value

-- value is reached, and no allocation, whole or fractional, is worth more
pub record IsOptimum (p : Program) (value : ℕ) : Type 0 where
  pub reached : (sell : List ℕ) × IsFeasible p sell × (worth p sell ≡ value)
  pub greatest : (scale : ℕ) (sell : List ℕ) → IsFeasibleAtScale p scale sell → worth p sell ≤ scale * value

-- prices whose bound is the optimum
pub record AreOptimalPrices (p : Program) (prices : List ℕ) : Type 0 where
  pub one_each : length prices ≡ length p.rooms
  pub optimal : IsOptimum p (bound p prices)

-- the sum of the prices from a night to the last one
abbrev pub price_from : List ℕ → ℕ → ℕ
price_from prices n = sum_below (λ k. slice_index prices (n + k)) (length prices - n)

-- u falls by the price of each night, and ends at 0
pub record AreSuffixSums (u : ℕ → ℕ) (prices : List ℕ) : Type 0 where
  pub last : u (length prices) ≡ 0
  pub falls : (n : ℕ) → n < length prices → u n ≡ slice_index prices n + u (n + 1)

-- optimal prices with the least sum from each night to the last one
pub record AreLeastPrices (p : Program) (prices : List ℕ) : Type 0 where
  pub optimal : AreOptimalPrices p prices
  pub least : (others : List ℕ) → AreOptimalPrices p others → (n : ℕ) → price_from prices n ≤ price_from others n
