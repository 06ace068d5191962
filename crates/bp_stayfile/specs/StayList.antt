-- The stays of a hotel with their codes.
use Rattle.std.specs.Prelude.{◌≡◌, ℕ, ◌≤◌, List, length, All}
use Rattle.bp_types.specs.declared.stay.Stay.{Stay}
use Rattle.bp_types.specs.declared.limits.TheConstants.{MOST_STAYS, MOST_RATE, MOST_FORECAST}
use Rattle.bp_types.specs.Spans.{IsSpanWithin}
use Rattle.bp_stayfile.specs.Codes.{IsCodes}

-- within how many nights the stays are, their codes, and one stay for each code
pub record StayList : Type 0 where
  pub nights : ℕ
  pub codes : List (List ℕ)
  pub stays : List Stay

-- no more stays than an instance may have, each within so many nights, with a rate and a forecast in range
pub record AreStays (nights : ℕ) (stays : List Stay) : Type 0 where
  pub few : length stays ≤ MOST_STAYS
  pub spans : All (λ s. IsSpanWithin nights s.span) stays
  pub rates : All (λ s. (1 ≤ s.rate) × (s.rate ≤ MOST_RATE)) stays
  pub forecasts : All (λ s. s.forecast ≤ MOST_FORECAST) stays

-- distinct codes, one for each stay, and every stay within its limits
pub record IsStayList (list : StayList) : Type 0 where
  pub codes : IsCodes list.codes
  pub one_each : length list.codes ≡ length list.stays
  pub stays : AreStays list.nights list.stays
