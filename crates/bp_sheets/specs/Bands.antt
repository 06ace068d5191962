-- Bands: what one unit more or fewer on each night is worth, beside its price.
use Rattle.std.specs.Prelude.{◌≡◌, ℕ, ◌≤◌, List, length, slice_index, slice_get, Some, MatchOption, All}
use Rattle.bp_types.specs.declared.limits.TheConstants.{MOST_ROOMS}
use Rattle.bp_types.specs.Program.{Program}
use Rattle.bp_types.specs.Optimum.{AreLeastPrices}
use Rattle.bp_types.specs.Displacement.{IsGain, IsLoss}
use Rattle.bp_sheets.specs.declared.band.Band.{Band}

-- the band of a night: no gain where it has as many rooms as a problem may have, no loss where it has none
pub record IsBand (p : Program) (price night : ℕ) (band : Band) : Type 0 where
  pub price_is : band.price ≡ price
  pub gain_is : MatchOption band.gain (slice_index p.rooms night ≡ MOST_ROOMS) (IsGain p night)
  pub loss_is : MatchOption band.loss (slice_index p.rooms night ≡ 0) (IsLoss p night)

-- one band for each night, beside these prices
pub record AreBandsBeside (p : Program) (prices : List ℕ) (bands : List Band) : Type 0 where
  pub one_each : length bands ≡ length p.rooms
  pub each : (night : ℕ) (band : Band) → slice_get bands night ≡ Some band → IsBand p (slice_index prices night) night band

-- the least optimal prices, and the bands beside them
pub record IsPriced (p : Program) (prices : List ℕ) (bands : List Band) : Type 0 where
  pub least : AreLeastPrices p prices
  pub beside : AreBandsBeside p prices bands

-- the bands of a program beside its least prices
abbrev pub AreBands : Program → List Band → Type 0
AreBands p bands = (prices : List ℕ) × IsPriced p prices bands
