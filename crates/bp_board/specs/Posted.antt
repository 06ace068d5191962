-- A vector of bid prices as it is posted: the certificate, and the position of the history that it is for.
use Rattle.std.specs.Prelude.{ℕ, ◌≤◌, length, All}
use Rattle.bp_types.specs.declared.limits.TheConstants.{MOST_NIGHTS, MOST_PRICE}
use Rattle.bp_types.specs.Claim.{Claim}

-- a certificate for the instance at a position
pub record Posted : Type 0 where
  pub position : ℕ
  pub certificate : Claim

-- one price for each night, of which there are not too many, and none above the greatest
pub record HasPrices (c : Claim) : Type 0 where
  pub some_night : 1 ≤ length c.prices
  pub nights : length c.prices ≤ MOST_NIGHTS
  pub within_limit : All (λ x. x ≤ MOST_PRICE) c.prices
