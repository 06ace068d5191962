-- What it says that no limit of a house is broken.
use Rattle.std.proofs.Common.{◌≡◌, ℕ, ◌-◌, ◌<◌, ◌≤◌, refl, sym, subst, arith, Bool, true, false, List, length, slice_index, None, inl, inr, ◌⊎◌}
use Rattle.std.specs.List.{range_with_len, find, EachIndex}
use Rattle.std.proofs.Math.Nat.{mul-le-mul}
use Rattle.std.proofs.lemmas.Bool.{or_cases, eqb-true, ltb-false}
use Rattle.std.proofs.lemmas.List.FromFn.{length-map-range_with_len, get_or-map-range_with_len}
use Rattle.bp_types.specs.declared.stay.Stay.{Stay}
use Rattle.bp_types.specs.declared.command.Limits.{Limits}
use Rattle.bp_types.specs.declared.house.HouseError.{HouseError}
use Rattle.bp_types.specs.declared.limits.TheConstants.{MOST_UNITS, MOST_ROOMS}
use Rattle.bp_types.specs.Limits.{IsWithinLimits}
use Rattle.bp_types.specs.House.{Inn, IsHouse, house_refusal, unless_house, is_oversold, is_unit, units_left, opening}
use Rattle.bp_types.proofs.Firsts.{none_passes}
use Rattle.bp_types.proofs.LimitLemmas.{or_none, map_none, limits_from_no_refusal}

unless_house_none : (b : Bool) (e : HouseError) → unless_house b e ≡ None → b ≡ true
unless_house_none true e h = refl
unless_house_none false e h = (cc)

house_rooms_below : MOST_ROOMS ≤ MOST_UNITS
house_rooms_below = omega arith

none_oversold : (rooms sold : List ℕ) → find (is_oversold rooms sold) (range_with_len 0 (length rooms)) ≡ None →
    EachIndex rooms (λ n. slice_index sold n ≤ slice_index rooms n)
none_oversold rooms sold none n h = ltb-false _ _ (none_passes (is_oversold rooms sold) 0 (length rooms) none n (omega arith) (omega arith))

pub house_from_no_refusal : (rooms sold : List ℕ) (stays : List Stay) (limits : Limits) → house_refusal rooms sold stays limits ≡ None →
    IsHouse (record { rooms = rooms; sold = sold; stays = stays; limits = limits })
house_from_no_refusal rooms sold stays limits none =
    let a = or_none _ _ none in
    let b = or_none _ _ a.1 in
    let c = or_none _ _ b.0 in
    let d = or_none _ _ b.1 in
    let e = or_none _ _ d.1 in
    let f = or_none _ _ e.1 in
    let program = limits_from_no_refusal MOST_ROOMS rooms stays house_rooms_below (map_none _ _ a.0) in
    record {
      instance = program.0;
      rooms = program.1;
      one_each = eqb-true _ _ (unless_house_none _ _ c.0);
      sold = none_oversold rooms sold (map_none _ _ c.1);
      stale_after = unless_house_none _ _ d.0;
      entries = unless_house_none _ _ e.0;
      publications = unless_house_none _ _ f.0;
      unit = unless_house_none _ _ f.1;
    }

-- a unit is 1 or 100
pub unit_cases : (u : ℕ) → is_unit u ≡ true → (u ≡ 1) ⊎ (u ≡ 100)
unit_cases u h = elim (or_cases _ _ h) [ inl one ↦ inl (eqb-true _ _ one) | inr hundred ↦ inr (eqb-true _ _ hundred) ]

pub unit_is_small : (u : ℕ) → is_unit u ≡ true → (1 ≤ u) × (u ≤ 100)
unit_is_small u h = elim (unit_cases u h) [ inl one ↦ (omega arith, omega arith) | inr hundred ↦ (omega arith, omega arith) ]

-- no night has more units left than an instance may have
pub units_left_small : (h : Inn) (n : ℕ) → IsHouse h → n < length h.rooms → units_left h n ≤ MOST_UNITS
units_left_small h n is in_range =
    let unit = unit_is_small h.limits.unit is.unit in
    let rooms : slice_index h.rooms n ≤ MOST_ROOMS = is.rooms n 0 in_range in
    let left : slice_index h.rooms n - slice_index h.sold n ≤ MOST_ROOMS = omega (arith, rooms) in
    omega (arith, mul-le-mul unit.1 left)

-- the program of a house keeps to the limits
pub opening_is_within : (h : Inn) → IsHouse h → IsWithinLimits (opening h)
opening_is_within h is =
    let each = length-map-range_with_len (units_left h) 0 (length h.rooms) in
    record {
      some_night = omega (arith, is.instance.some_night, each);
      nights = omega (arith, is.instance.nights, each);
      stays = is.instance.stays;
      rooms = λ k d g. let e = get_or-map-range_with_len (units_left h) 0 (length h.rooms) k k d (omega (arith, each)) (omega arith) in
          omega (arith, e, units_left_small h k is (omega (arith, each)));
      spans = λ k d g. let w = is.instance.spans k d g in (w.0, omega (arith, w.1, each));
      rates = is.instance.rates;
      forecasts = is.instance.forecasts;
    }

pub opening_parts_are_within : (h : Inn) (rooms : List ℕ) (stays : List Stay) → IsHouse h → rooms ≡ (opening h).rooms → stays ≡ h.stays →
    IsWithinLimits (record { rooms = rooms; stays = stays })
opening_parts_are_within h rooms stays is first second =
    let P : List ℕ → Type 0 = λ r. IsWithinLimits (record { rooms = r; stays = stays }) in
    let Q : List Stay → Type 0 = λ s. IsWithinLimits (record { rooms = (opening h).rooms; stays = s }) in
    subst P (sym first) (subst Q (sym second) (opening_is_within h is))
