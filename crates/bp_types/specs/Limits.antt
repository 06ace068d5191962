-- The limits of an instance, and the refusal of the first one that is broken.
use Rattle.std.specs.Prelude.{ℕ, ◌≤◌, ◌<◌, Bool, not, ◌&&◌, nat_le, nat_lt, if◌then◌else◌, List, length, Option, Some, None, All}
use Rattle.std.specs.List.{position}
use Rattle.std.specs.Option.{option_or, option_map}
use Rattle.bp_types.specs.declared.stay.Stay.{Stay}
use Rattle.bp_types.specs.declared.refusal.InstanceError.{InstanceError}
use Rattle.bp_types.specs.declared.refusal.InstanceError.TheVariants.{NoNights, TooManyNights, TooManyStays, Rooms, SpanOut, Rate, Forecast}
use Rattle.bp_types.specs.declared.limits.TheConstants.{MOST_NIGHTS, MOST_STAYS, MOST_UNITS, MOST_RATE, MOST_FORECAST}
use Rattle.bp_types.specs.Program.{Program}
use Rattle.bp_types.specs.Spans.{IsSpanWithin, is_within}

-- a rate that a stay may have
abbrev pub is_rate : ℕ → Bool
is_rate r = nat_le 1 r && nat_le r MOST_RATE

-- the refusal where the test fails
abbrev pub unless : Bool → InstanceError → Option InstanceError
unless b e = if b then None else Some e

-- the limits in their order, each at its first place, where a night has so many rooms at most
abbrev pub refusal_above : ℕ → List ℕ → List Stay → Option InstanceError
refusal_above most rooms stays =
    option_or (unless (nat_le 1 (length rooms)) NoNights)
    (option_or (unless (nat_le (length rooms) MOST_NIGHTS) TooManyNights)
    (option_or (unless (nat_le (length stays) MOST_STAYS) TooManyStays)
    (option_or (option_map Rooms (position (λ r. nat_lt most r) rooms))
    (option_or (option_map SpanOut (position (λ s. not (is_within (length rooms) s.span)) stays))
    (option_or (option_map Rate (position (λ s. not (is_rate s.rate)) stays))
    (option_map Forecast (position (λ s. nat_lt MOST_FORECAST s.forecast) stays)))))))

-- the limits of an instance in their order
abbrev pub refusal : List ℕ → List Stay → Option InstanceError
refusal rooms stays = refusal_above MOST_UNITS rooms stays

-- every value is within its limit
pub record IsWithinLimits (p : Program) : Type 0 where
  pub some_night : 1 ≤ length p.rooms
  pub nights : length p.rooms ≤ MOST_NIGHTS
  pub stays : length p.stays ≤ MOST_STAYS
  pub rooms : All (λ r. r ≤ MOST_UNITS) p.rooms
  pub spans : All (λ s. IsSpanWithin (length p.rooms) s.span) p.stays
  pub rates : All (λ s. (1 ≤ s.rate) × (s.rate ≤ MOST_RATE)) p.stays
  pub forecasts : All (λ s. s.forecast ≤ MOST_FORECAST) p.stays
