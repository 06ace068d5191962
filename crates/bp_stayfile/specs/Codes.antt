-- The codes of stays, in the order of their file.
use Rattle.std.specs.Prelude.{◌≡◌, ℕ, ◌≤◌, ◌<◌, false, List, [], length, slice_index_or, position, Option}
use Rattle.std.specs.Str.{bytes_eq}
use Rattle.bp_types.specs.declared.limits.TheConstants.{MOST_STAYS}

-- the stay that has this code
abbrev pub stay_with : List (List ℕ) → List ℕ → Option ℕ
stay_with codes code = position (bytes_eq code) codes

-- as many codes as there may be stays, no two of them the same
pub record IsCodes (codes : List (List ℕ)) : Type 0 where
  pub few : length codes ≤ MOST_STAYS
  pub distinct : (i j : ℕ) → i < j → j < length codes → bytes_eq (slice_index_or codes j []) (slice_index_or codes i []) ≡ false
