-- A house as it is opened: rooms and rooms sold by night, stays and the limits of the desk.
use Rattle.std.specs.Prelude.{
  ◌≡◌,
  ℕ,
  ◌*◌,
  ◌-◌,
  ◌≤◌,
  Bool,
  ◌==◌,
  ◌||◌,
  ◌&&◌,
  nat_lt,
  nat_le,
  if◌then◌else◌,
  IsTrue,
  List,
  length,
  map,
  slice_index,
  Option,
  Some,
  None,
  All,
  EachIndex,
}
use Rattle.std.specs.List.{find, range_with_len}
use Rattle.std.specs.Option.{option_or, option_map}
use Rattle.bp_types.specs.declared.stay.Stay.{Stay}
use Rattle.bp_types.specs.declared.command.Limits.{Limits}
use Rattle.bp_types.specs.declared.house.HouseError.{HouseError}
use Rattle.bp_types.specs.declared.house.HouseError.TheVariants.{Instance, SoldLength, Sold, StaleAfter, Entries, Publications, Unit as WrongUnit}
use Rattle.bp_types.specs.declared.limits.TheConstants.{MOST_ROOMS, MOST_STALE_AFTER, MOST_ENTRIES, MOST_PUBLICATIONS, HUNDREDTHS}
use Rattle.bp_types.specs.Program.{Program}
use Rattle.bp_types.specs.Limits.{refusal_above, IsWithinLimits}

-- what contracts see of a house
pub record Inn : Type 0 where
  pub rooms : List ℕ
  pub sold : List ℕ
  pub stays : List Stay
  pub limits : Limits

-- from one up to a greatest number
abbrev pub is_from_one : ℕ → ℕ → Bool
is_from_one most n = nat_le 1 n && nat_le n most

-- whole rooms, or hundredths
abbrev pub is_unit : ℕ → Bool
is_unit u = (u == 1) || (u == HUNDREDTHS)

-- more rooms of the night are sold than there are
abbrev pub is_oversold : List ℕ → List ℕ → ℕ → Bool
is_oversold rooms sold n = nat_lt (slice_index rooms n) (slice_index sold n)

-- the refusal where the test fails
abbrev pub unless_house : Bool → HouseError → Option HouseError
unless_house b e = if b then None else Some e

-- the limits of the desk in their order
abbrev pub limits_refusal : Limits → Option HouseError
limits_refusal l =
    option_or (unless_house (is_from_one MOST_STALE_AFTER l.stale_after) StaleAfter)
    (option_or (unless_house (is_from_one MOST_ENTRIES l.entries) Entries)
    (option_or (unless_house (is_from_one MOST_PUBLICATIONS l.publications) Publications)
    (unless_house (is_unit l.unit) WrongUnit)))

-- what is wrong with the rooms sold
abbrev pub sold_refusal : List ℕ → List ℕ → Option HouseError
sold_refusal rooms sold =
    option_or (unless_house (length sold == length rooms) SoldLength)
    (option_map Sold (find (is_oversold rooms sold) (range_with_len 0 (length rooms))))

-- the refusals of a house in their order, each at its first place
abbrev pub house_refusal : List ℕ → List ℕ → List Stay → Limits → Option HouseError
house_refusal rooms sold stays limits =
    option_or (option_map Instance (refusal_above MOST_ROOMS rooms stays))
    (option_or (sold_refusal rooms sold) (limits_refusal limits))

-- every value of a house is within its limit
pub record IsHouse (h : Inn) : Type 0 where
  pub instance : IsWithinLimits (record { rooms = h.rooms; stays = h.stays })
  pub rooms : All (λ r. r ≤ MOST_ROOMS) h.rooms
  pub one_each : length h.sold ≡ length h.rooms
  pub sold : EachIndex h.rooms (λ n. slice_index h.sold n ≤ slice_index h.rooms n)
  pub stale_after : IsTrue (is_from_one MOST_STALE_AFTER h.limits.stale_after)
  pub entries : IsTrue (is_from_one MOST_ENTRIES h.limits.entries)
  pub publications : IsTrue (is_from_one MOST_PUBLICATIONS h.limits.publications)
  pub unit : IsTrue (is_unit h.limits.unit)

-- the units left on a night
abbrev pub units_left : Inn → ℕ → ℕ
units_left h n = h.limits.unit * (slice_index h.rooms n - slice_index h.sold n)

-- the program of a house in its units: the rooms left, and the stays
abbrev pub opening : Inn → Program
opening h = record { rooms = map (units_left h) (range_with_len 0 (length h.rooms)); stays = h.stays }
