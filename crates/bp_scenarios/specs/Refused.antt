-- Which changes may be asked about, and the first one of a list that the rooms of some night do not allow.
use Rattle.std.specs.Prelude.{
  ℕ,
  ◌+◌,
  ◌<◌,
  ◌≤◌,
  Bool,
  true,
  false,
  ◌||◌,
  nat_lt,
  if◌then◌else◌,
  List,
  [],
  ◌∷◌,
  length,
  slice_index,
  All,
  Option,
  None,
  Some,
  is_some,
}
use Rattle.std.specs.List.{find, range_with_len}
use Rattle.bp_types.specs.declared.change.Change.{Change}
use Rattle.bp_types.specs.declared.change.Change.TheVariants.{Rooms, Demand, Rate}
use Rattle.bp_types.specs.declared.limits.TheConstants.{MOST_ROOMS, MOST_RATE, MOST_FORECAST, MOST_CHANGES}
use Rattle.bp_types.specs.Program.{Program, covers}
use Rattle.bp_types.specs.Rooms.{room_moved}
use Rattle.bp_types.specs.Changes.{changed}
use Rattle.bp_types.specs.Spans.{IsSpanWithin}

-- the nights or the stay of a change are there, among so many, and its number is within its limit
abbrev pub IsChangeOf : ℕ → ℕ → Change → Type 0
IsChangeOf nights stays (Rooms span up units) = IsSpanWithin nights span × (1 ≤ units) × (units ≤ MOST_ROOMS)
IsChangeOf nights stays (Demand stay value) = (stay < stays) × (value ≤ MOST_FORECAST)
IsChangeOf nights stays (Rate stay value) = (stay < stays) × (1 ≤ value) × (value ≤ MOST_RATE)

-- a change that may be asked about
abbrev pub IsChangeWithin : Program → Change → Type 0
IsChangeWithin p c = IsChangeOf (length p.rooms) (length p.stays) c

-- a list of changes that may be
pub record IsAskable (p : Program) (changes : List Change) : Type 0 where
  pub not_too_many : length changes ≤ MOST_CHANGES
  pub each : All (IsChangeWithin p) changes

-- the rooms of a night after a change
abbrev pub room_after : Program → Change → ℕ → ℕ
room_after p (Rooms span up units) n = room_moved p.rooms span up units n
room_after p (Demand stay value) n = slice_index p.rooms n
room_after p (Rate stay value) n = slice_index p.rooms n

-- how many rooms a change takes of a night
abbrev pub taken : Change → ℕ → ℕ
taken (Rooms span up units) n = if up then 0 else (if covers span n then units else 0)
taken (Demand stay value) n = 0
taken (Rate stay value) n = 0

-- after the change the rooms of the night would be below 0, or above 10,000
abbrev pub is_past : Program → Change → ℕ → Bool
is_past p c n = nat_lt (slice_index p.rooms n) (taken c n) || nat_lt MOST_ROOMS (room_after p c n)

-- so it would be of some night
abbrev pub breaks : Program → Change → Bool
breaks p c = is_some (find (is_past p c) (range_with_len 0 (length p.rooms)))

-- the number of the first such change, each made after those before it, where the next one has the number k
abbrev pub first_refused : ℕ → Program → List Change → Option ℕ
first_refused k p [] = None
first_refused k p (c ∷ cs) = if breaks p c then Some k else first_refused (k + 1) (changed p c) cs
