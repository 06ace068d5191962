-- The price of a night lies between what one room more brings and what one room fewer costs.
use Rattle.std.proofs.Common.{
  suc,
  Bool,
  ◌≡◌,
  ◌≢◌,
  ℕ,
  ◌+◌,
  ◌-◌,
  ◌*◌,
  ◌<◌,
  ◌≤◌,
  true,
  false,
  List,
  length,
  slice_index,
  sym,
  refl,
  ap,
  ◌∙◌,
  arith,
  inl,
  inr,
  suc-mul,
}
use Rattle.std.proofs.lemmas.Bool.{cases_lt}
use Rattle.bp_types.specs.Sums.{sum_below}
use Rattle.bp_types.specs.Program.{Program, rooms_value, bound}
use Rattle.bp_types.specs.Rooms.{rooms_moved}
use Rattle.bp_types.specs.Displacement.{with_more, without, night_span}
use Rattle.bp_types.specs.Laws.{WeakDuality, OptimumIsUnique, GainIsBelowPrice, PriceIsBelowLoss}
use Rattle.bp_types.proofs.SumLemmas.{sum_below-at}
use Rattle.bp_types.proofs.RoomLemmas.{length-rooms_moved, rooms_moved-at, room_moved-inside, room_moved-before, room_moved-past}

-- the rooms after one room more or fewer on night n, at their prices
abbrev moved_value : Program → List ℕ → ℕ → Bool → ℕ → ℕ
moved_value p prices n up nights = sum_below (λ k. slice_index (rooms_moved p.rooms (night_span n) up 1) k * slice_index prices k) nights

-- it differs from the rooms at their prices on that night alone
rooms_differ : (p : Program) (prices : List ℕ) (n : ℕ) (up : Bool) → n < length p.rooms →
    moved_value p prices n up (length p.rooms) + slice_index p.rooms n * slice_index prices n
    ≡ rooms_value p prices + slice_index (rooms_moved p.rooms (night_span n) up 1) n * slice_index prices n
rooms_differ p prices n up h =
    sum_below-at (λ k. slice_index (rooms_moved p.rooms (night_span n) up 1) k * slice_index prices k) (λ k. slice_index p.rooms k * slice_index prices k)
    (length p.rooms) n h
    (λ k lt ne. ap (λ (r : ℕ). r * slice_index prices k) (rooms_moved-at p.rooms (night_span n) up 1 k 0 lt ∙ elim (cases_lt k n) [
      | inl before ↦ room_moved-before p.rooms (night_span n) up 1 k before
      | inr past ↦ room_moved-past p.rooms (night_span n) up 1 k (let other : k ≢ n = ne in omega arith)
    ]))

one_more_times : (a b x : ℕ) → a ≡ suc b → a * x ≡ b * x + x
one_more_times a b x e = let m = ap (λ (k : ℕ). k * x) e in let d = suc-mul b x in omega arith

as_many_nights : (p : Program) (prices : List ℕ) (n : ℕ) (up : Bool) →
    moved_value p prices n up (length (rooms_moved p.rooms (night_span n) up 1)) ≡ moved_value p prices n up (length p.rooms)
as_many_nights p prices n up = ap (moved_value p prices n up) (length-rooms_moved p.rooms (night_span n) up 1)

-- one room more on a night raises the bound by its price
more_rooms : (p : Program) (prices : List ℕ) (n : ℕ) → n < length p.rooms → bound (with_more p (night_span n) 1) prices ≡ bound p prices + slice_index prices n
more_rooms p prices n h =
    let here = rooms_moved-at p.rooms (night_span n) true 1 n 0 h ∙ room_moved-inside p.rooms (night_span n) true 1 n (omega arith) (omega arith) in
    let one = one_more_times (slice_index (rooms_moved p.rooms (night_span n) true 1) n) (slice_index p.rooms n) (slice_index prices n) (omega (arith, here)) in
    omega (arith, as_many_nights p prices n true, rooms_differ p prices n true h, one)

-- one room fewer lowers it by the price
fewer_rooms : (p : Program) (prices : List ℕ) (n : ℕ) → n < length p.rooms → 1 ≤ slice_index p.rooms n →
    bound (without p (night_span n) 1) prices + slice_index prices n ≡ bound p prices
fewer_rooms p prices n h some =
    let here = rooms_moved-at p.rooms (night_span n) false 1 n 0 h ∙ room_moved-inside p.rooms (night_span n) false 1 n (omega arith) (omega arith) in
    let one = one_more_times (slice_index p.rooms n) (slice_index (rooms_moved p.rooms (night_span n) false 1) n) (slice_index prices n) (omega (arith, here))
    in
    omega (arith, as_many_nights p prices n false, rooms_differ p prices n false h, one)

pub gain_is_below_price : WeakDuality → OptimumIsUnique → GainIsBelowPrice
gain_is_below_price duality unique p prices n g best gain =
    let q = with_more p (night_span n) 1 in
    let each : length prices ≡ length q.rooms = best.one_each ∙ sym (length-rooms_moved p.rooms (night_span n) true 1) in
    let (sell, feasible, worth_is) = gain.optimum_with.reached in
    let below = duality q 1 sell prices feasible each in
    let same = unique p gain.before (bound p prices) gain.optimum best.optimal in
    omega (arith, below, worth_is, same, more_rooms p prices n gain.in_range, gain.difference)

pub price_is_below_loss : WeakDuality → OptimumIsUnique → PriceIsBelowLoss
price_is_below_loss duality unique p prices n l best loss =
    let q = without p (night_span n) 1 in
    let d = loss.displacement in
    let each : length prices ≡ length q.rooms = best.one_each ∙ sym (length-rooms_moved p.rooms (night_span n) false 1) in
    let (sell, feasible, worth_is) = d.optimum_without.reached in
    let below = duality q 1 sell prices feasible each in
    let same = unique p d.before (bound p prices) d.optimum best.optimal in
    let fewer = fewer_rooms p prices n loss.in_range (d.has_units n (omega arith) (omega arith)) in
    omega (arith, below, worth_is, same, fewer, d.difference)
