-- The limits of an instance by number.
use Rattle.std.specs.Prelude.{◌≡◌, Option, Some, None}
use Rattle.bp_types.specs.declared.refusal.InstanceError.{InstanceError}
use Rattle.bp_types.specs.declared.refusal.InstanceError.TheVariants.{NoNights, TooManyNights, TooManyStays, Rooms, SpanOut, Rate, Forecast}
use Rattle.bp_c.specs.declared.refusal.Refusal.{Refusal}

-- the number of the limit, and the night or the stay that breaks it
abbrev pub refusal_of : InstanceError → Refusal
refusal_of NoNights = record { limit = 1; place = 0 }
refusal_of TooManyNights = record { limit = 2; place = 0 }
refusal_of TooManyStays = record { limit = 3; place = 0 }
refusal_of (Rooms night) = record { limit = 4; place = night }
refusal_of (SpanOut stay) = record { limit = 5; place = stay }
refusal_of (Rate stay) = record { limit = 6; place = stay }
refusal_of (Forecast stay) = record { limit = 7; place = stay }

-- some limit refuses, and these are its numbers
abbrev pub IsRefusal : Option InstanceError → Refusal → Type 0
IsRefusal None numbers = ⊥
IsRefusal (Some error) numbers = numbers ≡ refusal_of error
