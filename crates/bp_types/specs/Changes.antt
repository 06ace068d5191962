-- Changes of a program: one, and several made one after another.
use Rattle.std.specs.Prelude.{◌≡◌, ℕ, ◌+◌, ◌≤◌, ◌<◌, MatchBool, List, [], ◌∷◌, length, slice_index, slice_set}
use Rattle.bp_types.specs.declared.stay.Span.{Span}
use Rattle.bp_types.specs.declared.stay.Stay.{Stay}
use Rattle.bp_types.specs.declared.change.Change.{Change}
use Rattle.bp_types.specs.declared.change.Change.TheVariants.{Rooms, Demand, Rate}
use Rattle.bp_types.specs.Program.{Program, stay_at}
use Rattle.bp_types.specs.Rooms.{rooms_moved}
use Rattle.bp_types.specs.declared.limits.TheConstants.{MOST_UNITS, MOST_RATE, MOST_FORECAST}
use Rattle.bp_types.specs.Spans.{IsSpanWithin}

-- the stay with another forecast
abbrev pub with_forecast : Stay → ℕ → Stay
with_forecast s value = record s { forecast = value }

-- the stay with another rate
abbrev pub with_rate : Stay → ℕ → Stay
with_rate s value = record s { rate = value }

-- the rooms of each night after a change
abbrev pub rooms_after : Program → Change → List ℕ
rooms_after p (Rooms span up units) = rooms_moved p.rooms span up units
rooms_after p (Demand stay value) = p.rooms
rooms_after p (Rate stay value) = p.rooms

-- the stays after a change
abbrev pub stays_after : Program → Change → List Stay
stays_after p (Rooms span up units) = p.stays
stays_after p (Demand stay value) = slice_set p.stays stay (with_forecast (stay_at p stay) value)
stays_after p (Rate stay value) = slice_set p.stays stay (with_rate (stay_at p stay) value)

-- the program after a change
abbrev pub changed : Program → Change → Program
changed p c = record { rooms = rooms_after p c; stays = stays_after p c }

-- each night of the span has so many units
abbrev pub HasUnits : Program → Span → ℕ → Type 0
HasUnits p s units = (n : ℕ) → s.from ≤ n → n < s.to → units ≤ slice_index p.rooms n

-- each night of the span has room for so many units more
abbrev pub TakesUnits : Program → Span → ℕ → Type 0
TakesUnits p s units = (n : ℕ) → s.from ≤ n → n < s.to → slice_index p.rooms n + units ≤ MOST_UNITS

-- the change keeps to the limits: its places are there, and its values and the rooms after it are in range
abbrev pub Fits : Program → Change → Type 0
Fits p (Rooms span up units) = IsSpanWithin (length p.rooms) span × MatchBool up (TakesUnits p span units) (HasUnits p span units)
Fits p (Demand stay value) = (stay < length p.stays) × (value ≤ MOST_FORECAST)
Fits p (Rate stay value) = (stay < length p.stays) × (1 ≤ value) × (value ≤ MOST_RATE)

-- the program after the changes, in their order
abbrev pub changed_by_all : Program → List Change → Program
changed_by_all p [] = p
changed_by_all p (change ∷ changes) = changed_by_all (changed p change) changes

-- each change keeps to the limits of the program that it comes to
abbrev pub FitInTurn : Program → List Change → Type 0
FitInTurn p [] = Unit {0}
FitInTurn p (change ∷ changes) = Fits p change × FitInTurn (changed p change) changes

-- the changes may be made one after another, and make the one program the other
pub record Leads (p : Program) (changes : List Change) (q : Program) : Type 0 where
  pub fits : FitInTurn p changes
  pub gives : changed_by_all p changes ≡ q
