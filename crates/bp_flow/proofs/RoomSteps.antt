-- Rooms that change on a span, and the flow under them: what is carried and what is slack stays.
use Rattle.std.proofs.Common.{◌≡◌, ℕ, ◌+◌, ◌<◌, ◌≤◌, arith, Bool, true, false, cond, length, slice_index, inl, inr, subst, sym}
use Rattle.std.proofs.lemmas.Bool.{cases_lt, cond-true, cond-false}
use Rattle.bp_types.specs.declared.stay.Span.{Span}
use Rattle.bp_types.specs.declared.change.Change.TheVariants.{Rooms}
use Rattle.bp_types.specs.Program.{Program, covers}
use Rattle.bp_types.specs.Changes.{changed, HasUnits}
use Rattle.bp_types.proofs.Spans.{covers_inside, covers_before, covers_past}
use Rattle.bp_types.proofs.RoomLemmas.{length-rooms_moved, rooms_moved-at, room_moved-inside, room_moved-before, room_moved-past}
use Rattle.bp_residual.specs.Network.{Priced, Flow, sell_more, sell_less, spare_more, spare_less, IsSlack, HasImbalance, IsBalanced, with_program}
use Rattle.bp_residual.proofs.Pushes.{span_before}

-- the rooms of a night in a span that gets more
room_rises : (p : Program) (s : Span) (units n : ℕ) → n < length p.rooms →
    slice_index (changed p (Rooms s true units)).rooms n ≡ slice_index p.rooms n + cond (covers s n) units 0
room_rises p s units n h =
    let e = rooms_moved-at p.rooms s true units n 0 h in
    elim (cases_lt n s.from) [
      | inl left ↦ let a = room_moved-before p.rooms s true units n left in let b = cond-false _ units 0 (covers_before s.from s.to n left) in
          omega (arith, e, a, b)
      | inr above ↦ elim (cases_lt n s.to) [
        | inl inside ↦ let a = room_moved-inside p.rooms s true units n above inside in
            let b = cond-true _ units 0 (covers_inside s.from s.to n above inside) in omega (arith, e, a, b)
        | inr past ↦ let a = room_moved-past p.rooms s true units n past in let b = cond-false _ units 0 (covers_past s.from s.to n past) in
            omega (arith, e, a, b)
      ]
    ]

-- and of one in a span that gets fewer
pub room_falls : (p : Program) (s : Span) (units n : ℕ) → HasUnits p s units → n < length p.rooms →
    slice_index (changed p (Rooms s false units)).rooms n + cond (covers s n) units 0 ≡ slice_index p.rooms n
room_falls p s units n enough h =
    let e = rooms_moved-at p.rooms s false units n 0 h in
    elim (cases_lt n s.from) [
      | inl left ↦ let a = room_moved-before p.rooms s false units n left in let b = cond-false _ units 0 (covers_before s.from s.to n left) in
          omega (arith, e, a, b)
      | inr above ↦ elim (cases_lt n s.to) [
        | inl inside ↦ let a = room_moved-inside p.rooms s false units n above inside in
            let b = cond-true _ units 0 (covers_inside s.from s.to n above inside) in omega (arith, e, a, b, enough n above inside)
        | inr past ↦ let a = room_moved-past p.rooms s false units n past in let b = cond-false _ units 0 (covers_past s.from s.to n past) in
            omega (arith, e, a, b)
      ]
    ]

-- more rooms: the imbalance of a shift
pub rise_imbalance : (p q : Priced) (s : Span) (units : ℕ) → s.from ≤ s.to → IsBalanced p.flow →
    q ≡ with_program p (changed p.flow.program (Rooms s true units)) → HasImbalance q.flow s.from s.to units
rise_imbalance p q s units ordered balance is =
    let P : Priced → Type 0 = λ r. HasImbalance r.flow s.from s.to units in
    let each = length-rooms_moved p.flow.program.rooms s true units in
    subst P (sym is) (λ n h.
    let n_in : n < length p.flow.program.rooms = omega (arith, each) in
    omega (arith, balance n n_in, room_rises p.flow.program s units n n_in, span_before s n units ordered))

-- fewer rooms: the imbalance the other way
pub fall_imbalance : (p q : Priced) (s : Span) (units : ℕ) → s.from ≤ s.to → HasUnits p.flow.program s units → IsBalanced p.flow →
    q ≡ with_program p (changed p.flow.program (Rooms s false units)) → HasImbalance q.flow s.to s.from units
fall_imbalance p q s units ordered enough balance is =
    let P : Priced → Type 0 = λ r. HasImbalance r.flow s.to s.from units in
    let each = length-rooms_moved p.flow.program.rooms s false units in
    subst P (sym is) (λ n h.
    let n_in : n < length p.flow.program.rooms = omega (arith, each) in
    omega (arith, balance n n_in, room_falls p.flow.program s units n enough n_in, span_before s n units ordered))

-- slackness does not speak of rooms
pub moved_slack : (p q : Priced) (s : Span) (up : Bool) (units : ℕ) → IsSlack p.flow (slice_index p.potentials) →
    q ≡ with_program p (changed p.flow.program (Rooms s up units)) → IsSlack q.flow (slice_index q.potentials)
moved_slack p q s up units slack is =
    let P : Priced → Type 0 = λ r. IsSlack r.flow (slice_index r.potentials) in
    subst P (sym is) (other_rooms p.flow s up units (slice_index p.potentials) slack)
  where
    other_rooms : (f : Flow) (s : Span) (up : Bool) (units : ℕ) (u : ℕ → ℕ) → IsSlack f u →
        IsSlack (record { program = changed f.program (Rooms s up units); sell = f.sell; spare = f.spare }) u
    other_rooms f s up units u slack (sell_more j) a = slack (sell_more j) a
    other_rooms f s up units u slack (sell_less j) a = slack (sell_less j) a
    other_rooms f s up units u slack (spare_more n) a = slack (spare_more n) (let each = length-rooms_moved f.program.rooms s up units in omega arith)
    other_rooms f s up units u slack (spare_less n) a =
        slack (spare_less n) ((let each = length-rooms_moved f.program.rooms s up units in omega (arith, a.0)), a.1)
