-- Open stays, the least length of each arrival, and hurdles.
use Rattle.std.specs.Prelude.{◌≡◌, ℕ, ◌+◌, ◌-◌, ◌<◌, ◌≤◌, Bool, true, ◌&&◌, nat_le, min, List, length, slice_index, slice_get, map, Option, None, Some}
use Rattle.std.specs.List.{range_with_len}
use Rattle.std.specs.Option.{is_none}
use Rattle.bp_types.specs.declared.stay.Span.{Span}
use Rattle.bp_types.specs.declared.stay.Stay.{Stay}
use Rattle.bp_types.specs.Program.{Program, stay_at, price}
use Rattle.bp_types.specs.Spans.{first_short}
use Rattle.bp_sheets.specs.declared.hurdles.TheConstants.{MOST_LENGTH}

-- each night of the span has a unit
abbrev pub has_rooms : Program → Span → Bool
has_rooms p s = is_none (first_short (slice_index p.rooms) s 1)

-- a stay is open where its rate covers the prices of its nights, and each of them has a unit
abbrev pub is_open : Program → List ℕ → Stay → Bool
is_open p prices s = nat_le (price prices s.span) s.rate && has_rooms p s.span

-- this stay is open, arrives on a night and stays so many nights
pub record IsOpenAt (p : Program) (prices : List ℕ) (stay arrival nights : ℕ) : Type 0 where
  pub arrives : (stay_at p stay).span.from ≡ arrival
  pub stays : (stay_at p stay).span.to - (stay_at p stay).span.from ≡ nights
  pub open_is : is_open p prices (stay_at p stay) ≡ true

-- one of the first stays does so
pub record IsOpenAmong (p : Program) (prices : List ℕ) (count arrival nights : ℕ) : Type 0 where
  pub stay : ℕ
  pub among : stay < count
  pub at : IsOpenAt p prices stay arrival nights

-- the fewest nights of an open one among the first stays that arrives on a night, if there is one
abbrev pub IsLeastAmong : Program → List ℕ → ℕ → ℕ → Option ℕ → Type 0
IsLeastAmong p prices count arrival None = (nights : ℕ) → IsOpenAmong p prices count arrival nights → ⊥
IsLeastAmong p prices count arrival (Some least) =
    IsOpenAmong p prices count arrival least × ((nights : ℕ) → IsOpenAmong p prices count arrival nights → least ≤ nights)

-- the same among all stays: the least length of the arrival
abbrev pub IsLeastLength : Program → List ℕ → ℕ → Option ℕ → Type 0
IsLeastLength p prices arrival least = IsLeastAmong p prices (length p.stays) arrival least

-- the least length of each arrival
pub record AreLeastLengths (p : Program) (prices : List ℕ) (lengths : List (Option ℕ)) : Type 0 where
  pub one_each : length lengths ≡ length p.rooms
  pub each : (arrival : ℕ) (least : Option ℕ) → slice_get lengths arrival ≡ Some least → IsLeastLength p prices arrival least

-- the prices of the stays of 1, 2 and so on nights from an arrival, up to a week and within the nights
abbrev pub hurdles : List ℕ → ℕ → List ℕ
hurdles prices arrival =
    map (λ k. price prices (record { from = arrival; to = arrival + k + 1 })) (range_with_len 0 (min MOST_LENGTH (length prices - arrival)))
