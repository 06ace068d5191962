-- A program with fewer rooms is worth no more, and what certificates tell of the difference.
use Rattle.std.proofs.Common.{◌≡◌, ℕ, ◌+◌, ◌-◌, ◌<◌, ◌≤◌, sym, arith, true, false, List, length, slice_index, inl, inr}
use Rattle.std.proofs.lemmas.Bool.{cases_lt}
use Rattle.bp_types.specs.declared.stay.Span.{Span}
use Rattle.bp_types.specs.Program.{Program}
use Rattle.bp_types.specs.Rooms.{room_moved, rooms_moved}
use Rattle.bp_types.specs.Optimum.{IsOptimum, IsFeasibleAtScale}
use Rattle.bp_types.specs.Displacement.{without, with_more}
use Rattle.bp_types.specs.Laws.{CertificatesTellDisplacement}
use Rattle.bp_types.proofs.Duality.{certificate_is_optimal}
use Rattle.bp_types.proofs.RoomLemmas.{length-rooms_moved, rooms_moved-at, room_moved-inside, room_moved-before, room_moved-past}

fewer_left : (rooms : List ℕ) (s : Span) (units n : ℕ) → room_moved rooms s false units n ≤ slice_index rooms n
fewer_left rooms s units n =
    elim (cases_lt n s.from) [
      | inl before ↦ omega (arith, room_moved-before rooms s false units n before)
      | inr above ↦ elim (cases_lt n s.to) [
        | inl inside ↦ omega (arith, room_moved-inside rooms s false units n above inside)
        | inr past ↦ omega (arith, room_moved-past rooms s false units n past)
      ]
    ]

more_left : (rooms : List ℕ) (s : Span) (units n : ℕ) → slice_index rooms n ≤ room_moved rooms s true units n
more_left rooms s units n =
    elim (cases_lt n s.from) [
      | inl before ↦ omega (arith, room_moved-before rooms s true units n before)
      | inr above ↦ elim (cases_lt n s.to) [
        | inl inside ↦ omega (arith, room_moved-inside rooms s true units n above inside)
        | inr past ↦ omega (arith, room_moved-past rooms s true units n past)
      ]
    ]

-- no fewer rooms on each night make the optimum no smaller
optimum_grows : (p : Program) (rooms : List ℕ) (v w : ℕ) → length rooms ≡ length p.rooms →
    ((n : ℕ) → n < length p.rooms → slice_index p.rooms n ≤ slice_index rooms n) →
    IsOptimum p v → IsOptimum (record { rooms = rooms; stays = p.stays }) w → v ≤ w
optimum_grows p rooms v w nights more a b =
    let q : Program = record { rooms = rooms; stays = p.stays } in
    let (sell, feasible, worth_is) = a.reached in
    let still : IsFeasibleAtScale q 1 sell = record {
      one_each = feasible.one_each;
      within_forecast = feasible.within_forecast;
      within_rooms = λ n h. let inside : n < length p.rooms = omega (arith, nights, h) in omega (arith, feasible.within_rooms n inside, more n inside);
    } in
    omega (arith, b.greatest 1 sell still, worth_is)

-- so many units fewer on a span make the optimum no greater
pub fewer_is_less : (p : Program) (s : Span) (units v w : ℕ) → IsOptimum p v → IsOptimum (without p s units) w → w ≤ v
fewer_is_less p s units v w a b =
    let each = length-rooms_moved p.rooms s false units in
    optimum_grows (without p s units) p.rooms w v (sym each) (λ n h. omega (
      arith,
      rooms_moved-at p.rooms s false units n 0 (omega (arith, each, h)),
      fewer_left p.rooms s units n,
    )) b a

-- so many units more make it no smaller
pub more_is_more : (p : Program) (s : Span) (units v w : ℕ) → IsOptimum p v → IsOptimum (with_more p s units) w → v ≤ w
more_is_more p s units v w =
    optimum_grows p (rooms_moved p.rooms s true units) v w (length-rooms_moved p.rooms s true units)
    (λ n h. omega (arith, rooms_moved-at p.rooms s true units n 0 h, more_left p.rooms s units n))

pub certificates_tell_displacement : CertificatesTellDisplacement
certificates_tell_displacement p s units with_all fewer span has a b =
    let before = certificate_is_optimal p with_all.value with_all.sell with_all.prices a in
    let after = certificate_is_optimal (without p s units) fewer.value fewer.sell fewer.prices b in
    let less = fewer_is_less p s units with_all.value fewer.value before after in (
      less,
      record {
        in_range = span;
        has_units = has;
        before = with_all.value;
        after = fewer.value;
        optimum = before;
        optimum_without = after;
        difference = omega (arith, less);
      },
    )
