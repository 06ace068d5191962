-- How many searches a solve from nothing makes at most, and how many a start.
use Rattle.std.specs.Prelude.{ℕ, ◌+◌, ◌-◌, zero, suc, true, false, List, length, slice_index}
use Rattle.bp_types.specs.Sums.{sum_below}
use Rattle.bp_types.specs.Program.{Program}
use Rattle.bp_flow.specs.Solvers.{lack_at}

-- how many more rooms a night has than the night before it; before the first night there are none
abbrev pub rise_at : List ℕ → ℕ → ℕ
rise_at rooms zero = slice_index rooms 0
rise_at rooms (suc n) = slice_index rooms (suc n) - slice_index rooms n

-- the sum of these rises over all nights
abbrev pub rises : List ℕ → ℕ
rises rooms = sum_below (rise_at rooms) (length rooms)

-- one search for each unit by which the rooms rise from night to night, and one for the least prices
abbrev pub searches_from_nothing : Program → ℕ
searches_from_nothing p = rises p.rooms + 1

-- the number before a place, and none before the first
abbrev pub prior : (ℕ → ℕ) → ℕ → ℕ
prior f zero = 0
prior f (suc n) = f n

-- by how much a number is greater than the one before it
abbrev pub rise_of : (ℕ → ℕ) → ℕ → ℕ
rise_of f n = f n - prior f n

-- by how many units the nights lack rooms more than the night before them, and have more too many, added up: so many
-- searches lead some rooms to others at most
abbrev pub repairs : List ℕ → List ℕ → ℕ
repairs has wants = sum_below (rise_of (lack_at true has wants)) (length wants) + sum_below (rise_of (lack_at false has wants)) (length wants)
