-- A vector of prices as displays show it.
use Rattle.std.specs.Prelude.{◌≡◌, ℕ, ◌+◌, ◌-◌, ◌<◌, ◌≤◌, List, map, slice_index}
use Rattle.std.specs.List.{range_with_len}
use Rattle.bp_types.specs.declared.limits.TheConstants.{MOST_NIGHTS}
use Rattle.bp_board.specs.Posted.{Posted}
use Rattle.bp_core.specs.Lines.{History, last_number, last_position, last_prices}

-- a vector: its number, the position of the history that it is for, and the price of each night
pub record Vector : Type 0 where
  pub number : ℕ
  pub position : ℕ
  pub prices : List ℕ

-- the vector on a board, under a number
abbrev pub vector_on : ℕ → Posted → Vector
vector_on number board = record { number = number; position = board.position; prices = board.certificate.prices }

-- the last vector of a history
abbrev pub newest_of : History → Vector
newest_of H = record { number = last_number H; position = last_position H; prices = last_prices H }

-- by how much the sums fall over each of so many nights
abbrev pub falls_of : ℕ → List ℕ → List ℕ
falls_of nights sums = map (λ n. slice_index sums n - slice_index sums (n + 1)) (range_with_len 0 nights)

-- the sums fall over so many nights, to 0
pub record FallTo (nights : ℕ) (sums : List ℕ) : Type 0 where
  pub most : nights ≤ MOST_NIGHTS
  pub last : slice_index sums nights ≡ 0
  pub falls : (n : ℕ) → n < nights → slice_index sums (n + 1) ≤ slice_index sums n
