-- Refusals of a hotel file.
use Rattle.bp_hotelfile.specs.declared.error.HotelRefusal.{HotelRefusal}
use Rattle.bp_hotelfile.specs.declared.error.HotelError.{HotelError}
use Rattle.bp_hotelfile.specs.declared.error.HotelError.TheVariants.{Refused, Memory}

-- P holds of the refusal, where the error is one
abbrev pub IfRefused : HotelError → (HotelRefusal → Type 0) → Type 0
IfRefused (Refused refusal) P = P refusal
IfRefused Memory P = Unit {0}
