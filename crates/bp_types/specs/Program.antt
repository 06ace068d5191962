-- The deterministic linear program: rooms by night, and stays.
use Rattle.std.specs.Prelude.{ℕ, ◌+◌, ◌*◌, ◌-◌, Bool, ◌&&◌, nat_le, nat_lt, if◌then◌else◌, List, length, slice_index, slice_index_or}
use Rattle.bp_types.specs.declared.stay.Span.{Span}
use Rattle.bp_types.specs.declared.stay.Stay.{Stay}
use Rattle.bp_types.specs.Sums.{sum_below}

-- the rooms of each night, and the stays
pub record Program : Type 0 where
  pub rooms : List ℕ
  pub stays : List Stay

-- a stay over no night; what stands past the end of a list of stays
abbrev pub no_stay : Stay
no_stay = record { span = record { from = 0; to = 0 }; rate = 0; forecast = 0 }

-- a stay by its number
abbrev pub stay_at : Program → ℕ → Stay
stay_at p j = slice_index_or p.stays j no_stay

-- a guest of the span sleeps in the hotel on night n
abbrev pub covers : Span → ℕ → Bool
covers s n = nat_le s.from n && nat_lt n s.to

-- what an allocation takes of a night: the sold numbers of the stays that cover it
abbrev pub load : Program → List ℕ → ℕ → ℕ
load p sell n =
    sum_below (λ j. if covers (stay_at p j).span n then slice_index sell j else 0) (length p.stays)

-- the revenue of an allocation
abbrev pub worth : Program → List ℕ → ℕ
worth p sell = sum_below (λ j. (stay_at p j).rate * slice_index sell j) (length p.stays)

-- the price of a span: the prices of the nights that it covers
abbrev pub price : List ℕ → Span → ℕ
price prices s = sum_below (λ n. if covers s n then slice_index prices n else 0) (length prices)

-- the part of a stay's rate above the price of its nights
abbrev pub surplus : Program → List ℕ → ℕ → ℕ
surplus p prices j = (stay_at p j).rate - price prices (stay_at p j).span

-- the rooms at their prices
abbrev pub rooms_value : Program → List ℕ → ℕ
rooms_value p prices = sum_below (λ n. slice_index p.rooms n * slice_index prices n) (length p.rooms)

-- the forecasts at their surpluses
abbrev pub stays_value : Program → List ℕ → ℕ
stays_value p prices = sum_below (λ j. (stay_at p j).forecast * surplus p prices j) (length p.stays)

-- the dual value of the prices
abbrev pub bound : Program → List ℕ → ℕ
bound p prices = rooms_value p prices + stays_value p prices
