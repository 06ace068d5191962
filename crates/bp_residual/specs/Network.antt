-- The interval network: nodes 0 to N, an arc for each stay, and a free arc over each night.
--
-- The matrix of the linear program, a row for each night and a column for each stay, has consecutive ones in each
-- column. Taking differences of neighbouring rows makes a minimum-cost flow of the program. Such a matrix is totally
-- unimodular, so whole numbers suffice.
use Rattle.std.specs.List.{range_with_len}
use Rattle.std.specs.Prelude.{
  ◌≡◌,
  ◌≢◌,
  ℕ,
  ◌+◌,
  ◌-◌,
  ◌*◌,
  ◌^◌,
  ◌≤◌,
  ◌<◌,
  zero,
  suc,
  min,
  max,
  nat_le,
  nat_lt,
  if◌then◌else◌,
  List,
  [],
  ◌∷◌,
  length,
  map,
  slice_index,
  slice_set,
  All,
  Option,
  Some,
  None,
  MatchOption,
}
use Rattle.bp_types.specs.declared.limits.TheConstants.{MOST_PRICE}
use Rattle.bp_types.specs.Program.{Program, stay_at, load}
use Rattle.bp_types.specs.Limits.{IsWithinLimits}
use Rattle.bp_residual.specs.declared.hop.Hop.{Hop}

-- a program, what is sold of each stay, and the spare rooms of each night
pub record Flow : Type 0 where
  pub program : Program
  pub sell : List ℕ
  pub spare : List ℕ

-- one step of a residual path
pub data Step : Type 0 where
  sell_more : ℕ → Step
  sell_less : ℕ → Step
  spare_more : ℕ → Step
  spare_less : ℕ → Step

-- the node that a step leaves
abbrev pub tail : Program → Step → ℕ
tail p (sell_more j) = (stay_at p j).span.from
tail p (sell_less j) = (stay_at p j).span.to
tail p (spare_more n) = n
tail p (spare_less n) = n + 1

-- the node that a step reaches
abbrev pub head : Program → Step → ℕ
head p (sell_more j) = (stay_at p j).span.to
head p (sell_less j) = (stay_at p j).span.from
head p (spare_more n) = n + 1
head p (spare_less n) = n

-- the step has room for so many units
abbrev pub Admits : Flow → Step → ℕ → Type 0
Admits f (sell_more j) units = (j < length f.program.stays) × (slice_index f.sell j + units ≤ (stay_at f.program j).forecast)
Admits f (sell_less j) units = (j < length f.program.stays) × (units ≤ slice_index f.sell j)
Admits f (spare_more n) units = n < length f.program.rooms
Admits f (spare_less n) units = (n < length f.program.rooms) × (units ≤ slice_index f.spare n)

-- the revenue that a unit over the step brings
abbrev pub gain : Program → Step → ℕ
gain p (sell_more j) = (stay_at p j).rate
gain p (sell_less j) = 0
gain p (spare_more n) = 0
gain p (spare_less n) = 0

-- the revenue that a unit over the step gives up
abbrev pub loss : Program → Step → ℕ
loss p (sell_more j) = 0
loss p (sell_less j) = (stay_at p j).rate
loss p (spare_more n) = 0
loss p (spare_less n) = 0

-- under potentials u the reduced cost of the step is not negative
abbrev pub IsNonNegative : Program → (ℕ → ℕ) → Step → Type 0
IsNonNegative p u s = u (head p s) + gain p s ≤ u (tail p s) + loss p s

-- the reduced cost of the step, where it is not negative
abbrev pub reduced_cost : Program → (ℕ → ℕ) → Step → ℕ
reduced_cost p u s = (u (tail p s) + loss p s) - (u (head p s) + gain p s)

-- no residual step has a negative reduced cost: complementary slackness, said of a flow and its potentials
abbrev pub IsSlack : Flow → (ℕ → ℕ) → Type 0
IsSlack f u = (s : Step) → Admits f s 1 → IsNonNegative f.program u s

-- a residual path from a to b
abbrev pub IsPath : Flow → ℕ → ℕ → List Step → Type 0
IsPath f a b [] = a ≡ b
IsPath f a b (s ∷ ss) = (tail f.program s ≡ a) × Admits f s 1 × IsPath f (head f.program s) b ss

-- the length of a path by reduced cost
abbrev pub path_cost : Program → (ℕ → ℕ) → List Step → ℕ
path_cost p u [] = 0
path_cost p u (s ∷ ss) = reduced_cost p u s + path_cost p u ss

-- what is sold after so many units over a step
abbrev pub sell_after : List ℕ → Step → ℕ → List ℕ
sell_after sell (sell_more j) units = slice_set sell j (slice_index sell j + units)
sell_after sell (sell_less j) units = slice_set sell j (slice_index sell j - units)
sell_after sell (spare_more n) units = sell
sell_after sell (spare_less n) units = sell

-- what is spare after so many units over a step
abbrev pub spare_after : List ℕ → Step → ℕ → List ℕ
spare_after spare (sell_more j) units = spare
spare_after spare (sell_less j) units = spare
spare_after spare (spare_more n) units = slice_set spare n (slice_index spare n + units)
spare_after spare (spare_less n) units = slice_set spare n (slice_index spare n - units)

-- what is sold after so many units along a path
abbrev pub sell_along : List ℕ → List Step → ℕ → List ℕ
sell_along sell [] units = sell
sell_along sell (s ∷ ss) units = sell_along (sell_after sell s units) ss units

-- what is spare after so many units along a path
abbrev pub spare_along : List ℕ → List Step → ℕ → List ℕ
spare_along spare [] units = spare
spare_along spare (s ∷ ss) units = spare_along (spare_after spare s units) ss units

-- the flow after so many units over a step
abbrev pub pushed : Flow → Step → ℕ → Flow
pushed f s units = record { program = f.program; sell = sell_after f.sell s units; spare = spare_after f.spare s units }

-- the flow after so many units along a path
abbrev pub pushed_along : Flow → List Step → ℕ → Flow
pushed_along f path units = record { program = f.program; sell = sell_along f.sell path units; spare = spare_along f.spare path units }

-- each step in turn has room for so many units
abbrev pub AdmitsAlong : Flow → List Step → ℕ → Type 0
AdmitsAlong f [] units = Unit {0}
AdmitsAlong f (s ∷ ss) units = Admits f s units × AdmitsAlong (pushed f s units) ss units

-- the steps join, from a to b
abbrev pub Joins : Program → ℕ → ℕ → List Step → Type 0
Joins p a b [] = a ≡ b
Joins p a b (s ∷ ss) = (tail p s ≡ a) × Joins p (head p s) b ss

-- the reduced cost of the step is 0
abbrev pub IsTight : Program → (ℕ → ℕ) → Step → Type 0
IsTight p u s = u (head p s) + gain p s ≡ u (tail p s) + loss p s

-- each step of the path has reduced cost 0
abbrev pub AreTight : Program → (ℕ → ℕ) → List Step → Type 0
AreTight p u [] = Unit {0}
AreTight p u (s ∷ ss) = IsTight p u s × AreTight p u ss

-- what a path brings
abbrev pub path_gain : Program → List Step → ℕ
path_gain p [] = 0
path_gain p (s ∷ ss) = gain p s + path_gain p ss

-- what a path gives up
abbrev pub path_loss : Program → List Step → ℕ
path_loss p [] = 0
path_loss p (s ∷ ss) = loss p s + path_loss p ss

-- what the flow carries over a night
abbrev pub carried : Flow → ℕ → ℕ
carried f n = load f.program f.sell n + slice_index f.spare n

-- 1 where the node stands at or before the night
abbrev pub before : ℕ → ℕ → ℕ
before v n = if nat_le v n then 1 else 0

-- the rooms of each night, but for so many units that are to go from one node to the other
abbrev pub HasImbalance : Flow → ℕ → ℕ → ℕ → Type 0
HasImbalance f from to units =
    (n : ℕ) → n < length f.program.rooms →
    carried f n + units * before from n ≡ slice_index f.program.rooms n + units * before to n

-- the flow carries exactly the rooms
abbrev pub IsBalanced : Flow → Type 0
IsBalanced f = (n : ℕ) → n < length f.program.rooms → carried f n ≡ slice_index f.program.rooms n

-- the lists have a number for each stay and each night, and no stay is sold above its forecast
pub record IsFlow (f : Flow) : Type 0 where
  pub one_each_stay : length f.sell ≡ length f.program.stays
  pub one_each_night : length f.spare ≡ length f.program.rooms
  pub within_forecast : (j : ℕ) → j < length f.program.stays → slice_index f.sell j ≤ (stay_at f.program j).forecast

-- a flow, and a potential for each node
pub record Priced : Type 0 where
  pub flow : Flow
  pub potentials : List ℕ

-- the greatest spare number of a night
abbrev pub greatest_spare : ℕ
greatest_spare = 10 ^ 12

-- the potentials end at 0, and fall by prices within the limit
pub record ArePotentials (nights : ℕ) (potentials : List ℕ) : Type 0 where
  pub one_each : length potentials ≡ nights + 1
  pub last : slice_index potentials nights ≡ 0
  pub falls : (n : ℕ) → n < nights → slice_index potentials (n + 1) ≤ slice_index potentials n
  pub within_limit : (n : ℕ) → n < nights → slice_index potentials n ≤ slice_index potentials (n + 1) + MOST_PRICE

-- every value is within its limit, and the lists belong together
pub record IsPriced (f : Priced) : Type 0 where
  pub limits : IsWithinLimits f.flow.program
  pub flow : IsFlow f.flow
  pub spare : All (λ x. x ≤ greatest_spare) f.flow.spare
  pub potentials : ArePotentials (length f.flow.program.rooms) f.potentials

-- how many nodes there are
abbrev pub nodes : Priced → ℕ
nodes p = length p.flow.program.rooms + 1

-- the residual step that a hop names: arcs below the number of stays are stays, the others are free
abbrev pub step_of : Program → Hop → Step
step_of p h =
    if nat_lt h.arc (length p.stays)
    then (if h.forward then sell_more h.arc else sell_less h.arc)
    else (if h.forward then spare_more (h.arc - length p.stays) else spare_less (h.arc - length p.stays))

-- the residual steps of a path of hops
abbrev pub steps_of : Program → List Hop → List Step
steps_of p hops = map (step_of p) hops

-- how many arcs there are
abbrev pub arcs : Program → ℕ
arcs p = length p.stays + length p.rooms

-- the step over an arc forward
abbrev pub forward_step : Program → ℕ → Step
forward_step p arc = if nat_lt arc (length p.stays) then sell_more arc else spare_more (arc - length p.stays)

-- how many units an arc may carry; None for a free arc
abbrev pub capacity : Program → ℕ → Option ℕ
capacity p arc = if nat_lt arc (length p.stays) then Some (stay_at p arc).forecast else None

-- how many units the arc of a step carries
abbrev pub carried_by : Flow → Step → ℕ
carried_by f (sell_more j) = slice_index f.sell j
carried_by f (sell_less j) = slice_index f.sell j
carried_by f (spare_more n) = slice_index f.spare n
carried_by f (spare_less n) = slice_index f.spare n

-- the potentials after a lift: each price changes by the difference of the raises, and stays within its limits
pub record IsLifted (nights : ℕ) (old by new : List ℕ) : Type 0 where
  pub last : slice_index new nights ≡ 0
  pub price : (n : ℕ) → n < nights →
      slice_index new n
      ≡ slice_index new (n + 1)
      + min ((slice_index old n + slice_index by n) - (slice_index old (n + 1) + slice_index by (n + 1))) MOST_PRICE

-- the reduced cost of a step that has room for a unit; None where it has none
abbrev pub IsCost : Priced → Step → Option ℕ → Type 0
IsCost p s cost =
    MatchOption cost (Admits p.flow s 1 → ⊥)
    (λ c. Admits p.flow s 1 × (c ≡ reduced_cost p.flow.program (slice_index p.potentials) s))

-- the step has room for so many units, and no spare number grows too great by them
abbrev pub FitsSpare : Flow → Step → ℕ → Type 0
FitsSpare f (sell_more j) units = Unit {0}
FitsSpare f (sell_less j) units = Unit {0}
FitsSpare f (spare_more n) units = slice_index f.spare n + units ≤ greatest_spare
FitsSpare f (spare_less n) units = Unit {0}

-- the hop is one of the network's, and takes so many units
pub record Takes (f : Flow) (units : ℕ) (h : Hop) : Type 0 where
  pub in_range : h.arc < arcs f.program
  pub admits : Admits f (step_of f.program h) units
  pub fits : FitsSpare f (step_of f.program h) units

-- no arc is named twice
abbrev pub NamesArcsOnce : List Hop → Type 0
NamesArcsOnce [] = Unit {0}
NamesArcsOnce (h ∷ hs) = All (λ g. g.arc ≢ h.arc) hs × NamesArcsOnce hs

-- the room over a free arc forward, which has no limit: the greatest u64
abbrev pub no_limit : ℕ
no_limit = 2 ^ 64 - 1

-- how many units the step has room for
abbrev pub room_of : Flow → Step → ℕ
room_of f (sell_more j) = (stay_at f.program j).forecast - slice_index f.sell j
room_of f (sell_less j) = slice_index f.sell j
room_of f (spare_more n) = no_limit
room_of f (spare_less n) = slice_index f.spare n

-- the same flow and potentials on another program
abbrev pub with_program : Priced → Program → Priced
with_program p program =
    record { flow = record { program = program; sell = p.flow.sell; spare = p.flow.spare }; potentials = p.potentials }

-- the same with another sold number of one stay
abbrev pub with_sold : Priced → ℕ → ℕ → Priced
with_sold p stay units =
    record { flow = record { program = p.flow.program; sell = slice_set p.flow.sell stay units; spare = p.flow.spare }; potentials = p.potentials }

-- the program with another number of rooms on one night
abbrev pub with_rooms : Program → ℕ → ℕ → Program
with_rooms p night rooms = record { rooms = slice_set p.rooms night rooms; stays = p.stays }

-- the greatest of f 0, .., f (n - 1); 0 where there is none
abbrev pub greatest_below : (ℕ → ℕ) → ℕ → ℕ
greatest_below f zero = 0
greatest_below f (suc n) = max (greatest_below f n) (f n)

-- the greatest rate of a stay; 0 without stays
abbrev pub greatest_rate : Program → ℕ
greatest_rate p = greatest_below (λ j. (stay_at p j).rate) (length p.stays)

-- each night has the same price
abbrev pub AreLevel : ℕ → ℕ → List ℕ → Type 0
AreLevel nights price potentials = (v : ℕ) → v ≤ nights → slice_index potentials v ≡ (nights - v) * price

-- nothing is sold or spare, there are no rooms, and no stay is worth more than a night's price
pub record IsEmptyFlow (p : Priced) (price : ℕ) : Type 0 where
  pub rooms : (n : ℕ) → slice_index p.flow.program.rooms n ≡ 0
  pub sell : (j : ℕ) → slice_index p.flow.sell j ≡ 0
  pub spare : (n : ℕ) → slice_index p.flow.spare n ≡ 0
  pub level : AreLevel (length p.flow.program.rooms) price p.potentials
  pub dear : (j : ℕ) → j < length p.flow.program.stays → (stay_at p.flow.program j).rate ≤ price

-- the price of each night
abbrev pub prices_of : Priced → List ℕ
prices_of p =
    map (λ n. slice_index p.potentials n - slice_index p.potentials (n + 1)) (range_with_len 0 (length p.flow.program.rooms))

-- the empty flow on the program without its rooms, each price the greatest rate
pub record IsEmptyFlowOf (program : Program) (p : Priced) : Type 0 where
  pub empty : IsEmptyFlow p (greatest_rate program)
  pub stays : p.flow.program.stays ≡ program.stays
  pub nights : length p.flow.program.rooms ≡ length program.rooms

-- the step has room for a unit and reduced cost 0, and leads from one node to another
pub record IsFreeStep (p : Priced) (s : Step) (from to : ℕ) : Type 0 where
  pub admits : Admits p.flow s 1
  pub tight : IsTight p.flow.program (slice_index p.potentials) s
  pub leaves : from ≡ tail p.flow.program s
  pub reaches : to ≡ head p.flow.program s
