-- The bookings of a caller among those of all.
use Rattle.std.proofs.Common.{◌≡◌, ℕ, ◌<◌, ◌∙◌, ap, sym, List, [], length, map, get_or, Vec, Global}
use Rattle.std.proofs.lemmas.List.{get_or-map}
use Rattle.bp_core.specs.declared.roll.Booking.{Booking}

-- the elements of one of the vectors
abbrev pub items_of : Vec Booking Global → List Booking
items_of v = v.items

pub bookings_read : (vs : List (Vec Booking Global)) (i : ℕ) (v : Vec Booking Global) → i < length vs → v ≡ get_or vs i v →
    get_or (map items_of vs) i [] ≡ v.items
bookings_read vs i v within is = get_or-map items_of vs i v [] within ∙ ap items_of (sym is)
