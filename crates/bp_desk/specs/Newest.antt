-- The newest vector that a pass has seen.
use Rattle.std.specs.Prelude.{◌≡◌, ℕ, ◌+◌, List, length}
use Rattle.bp_types.specs.House.{Inn}
use Rattle.bp_types.specs.Prices.{SumUp}
use Rattle.bp_core.specs.Lines.{History, last_number, last_position, last_prices}

-- a vector as it is kept: its number, its position, and the sums of its prices from each night to the last
pub record Vector : Type 0 where
  pub number : ℕ
  pub position : ℕ
  pub sums : List ℕ

-- it is the last one of a history
pub record IsNewest (h : Inn) (H : History) (v : Vector) : Type 0 where
  pub number_is : v.number ≡ last_number H
  pub position_is : v.position ≡ last_position H
  pub nights : length (last_prices H) ≡ length h.rooms
  pub each_night : length v.sums ≡ length h.rooms + 1
  pub sums_are : SumUp (last_prices H) v.sums
