-- The counts of a file as the readers hold them: one place for each stay.
use Rattle.std.specs.Prelude.{◌≡◌, ℕ, ◌<◌, ◌≤◌, if◌then◌else◌, List, length, slice_index_or, Option, Some, None, unwrap_or}
use Rattle.bp_types.specs.declared.stay.Stay.{Stay}
use Rattle.bp_types.specs.declared.limits.TheConstants.{MOST_FORECAST}
use Rattle.bp_types.specs.Program.{covers, no_stay}
use Rattle.bp_types.specs.Sums.{sum_below}
use Rattle.bp_stayfile.specs.declared.counts.Counted.{Counted}
use Rattle.bp_stayfile.specs.Counts.{count_of}

-- one place per stay, with the count that the file has for it
pub record AreLaidOut (stays : ℕ) (counts : List Counted) (places : List (Option ℕ)) : Type 0 where
  pub one_each : length places ≡ stays
  pub each : (j : ℕ) → j < stays → slice_index_or places j None ≡ count_of counts j
  pub small : (j c : ℕ) → slice_index_or places j None ≡ Some c → c ≤ MOST_FORECAST

-- the rooms that the first m stays take of a night, by counts laid out by stay
abbrev pub sold_at : List (Option ℕ) → List Stay → ℕ → ℕ → ℕ
sold_at places stays m n =
    sum_below (λ j. if covers (slice_index_or stays j no_stay).span n then unwrap_or (slice_index_or places j None) 0 else 0) m
