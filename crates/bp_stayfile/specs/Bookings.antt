-- The bookings file: the rooms that are sold of each night.
use Rattle.std.specs.Prelude.{
  ◌≡◌,
  ℕ,
  ◌≤◌,
  if◌then◌else◌,
  List,
  map,
  find,
  length,
  slice_index,
  slice_index_or,
  EachIndex,
  Option,
  Some,
  None,
  unwrap_or,
  Result,
  Ok,
  Err,
}
use Rattle.std.specs.List.{range_with_len}
use Rattle.bp_types.specs.declared.stay.Stay.{Stay}
use Rattle.bp_types.specs.Program.{covers, no_stay}
use Rattle.bp_types.specs.Sums.{sum_below}
use Rattle.bp_types.specs.House.{is_oversold}
use Rattle.bp_hotelfile.specs.Steps.{◌>>=◌}
use Rattle.bp_stayfile.specs.declared.counts.Counted.{Counted}
use Rattle.bp_stayfile.specs.declared.error.TableRefusal.{TableRefusal}
use Rattle.bp_stayfile.specs.declared.error.TableRefusal.TheVariants.{Overbooked}
use Rattle.bp_stayfile.specs.Counts.{count_of, counts_file}
use Rattle.bp_stayfile.specs.StayList.{StayList}

-- the rooms that the bookings of the stays take of a night
abbrev pub sold_on : List Counted → List Stay → ℕ → ℕ
sold_on counts stays n =
    sum_below (λ j. if covers (slice_index_or stays j no_stay).span n then unwrap_or (count_of counts j) 0 else 0) (length stays)

-- the rooms sold on each night
abbrev pub sold_by_night : ℕ → List Counted → List Stay → List ℕ
sold_by_night nights counts stays = map (sold_on counts stays) (range_with_len 0 nights)

-- the sold rooms, unless a night has fewer
abbrev pub unless_overbooked : Option ℕ → List ℕ → Result (List ℕ) TableRefusal
unless_overbooked None sold = Ok sold
unless_overbooked (Some night) sold = Err (Overbooked night)

-- the sold rooms of counts, or the first night that has fewer rooms
abbrev pub sold_of : List ℕ → List Stay → List Counted → Result (List ℕ) TableRefusal
sold_of rooms stays counts =
    let sold = sold_by_night (length rooms) counts stays in
    unless_overbooked (find (is_oversold rooms sold) (range_with_len 0 (length rooms))) sold

-- the sold rooms of a bookings file, or its first refusal
abbrev pub bookings_file : List ℕ → StayList → List ℕ → Result (List ℕ) TableRefusal
bookings_file rooms list bytes = counts_file list.codes bytes >>= sold_of rooms list.stays

-- one number for each night, and no night has fewer rooms than are sold
pub record AreSold (rooms sold : List ℕ) : Type 0 where
  pub one_each : length sold ≡ length rooms
  pub fit : EachIndex rooms (λ n. slice_index sold n ≤ slice_index rooms n)
