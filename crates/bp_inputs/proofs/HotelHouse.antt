-- The house of a hotel has its nights and its stays.
use Rattle.std.proofs.Common.{◌≡◌, ℕ, Option, refl, subst}
use Rattle.bp_edges.specs.Held.{Files}
use Rattle.bp_inputs.specs.Stages.{Gives}
use Rattle.bp_inputs.specs.HotelPlan.{HotelNames, hotel_plan}
use Rattle.bp_inputs.specs.declared.house.OpenHotel.{OpenHotel}

pub is_opened : (held : Option Files) (names : HotelNames) (first next : ℕ) (inn : OpenHotel) → Gives held (hotel_plan names) first next inn
    → (inn.house.rooms ≡ inn.hotel.rooms) × (inn.house.stays ≡ inn.stays.stays)
is_opened held names first next inn (season, hotel_read, (listed, stays_read, (stays, forecast_read, (sold, bookings_read, (is, same))))) =
    let P : OpenHotel → Type 0 = λ o. (o.house.rooms ≡ o.hotel.rooms) × (o.house.stays ≡ o.stays.stays) in subst P is (refl, refl)
