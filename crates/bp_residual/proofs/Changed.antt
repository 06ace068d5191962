-- A changed instance under a flow with potentials.
use Rattle.std.proofs.Common.{
  ◌≡◌,
  ℕ,
  ◌+◌,
  ◌<◌,
  ◌≤◌,
  ◌∙◌,
  sym,
  ap,
  arith,
  Bool,
  List,
  length,
  slice_index,
  slice_set,
  slice_index_or,
  subst,
  inl,
  inr,
  get_or-set_same,
  get_or-set_other,
  length-set,
}
use Rattle.std.proofs.lemmas.Bool.{cases_eq}
use Rattle.bp_types.specs.declared.stay.Span.{Span}
use Rattle.bp_types.specs.declared.stay.Stay.{Stay}
use Rattle.bp_types.specs.declared.change.Change.TheVariants.{Rooms, Demand, Rate}
use Rattle.bp_types.specs.Program.{Program, no_stay, stay_at}
use Rattle.bp_types.specs.Rooms.{moved, room_moved, rooms_moved}
use Rattle.bp_types.specs.Changes.{changed, with_forecast, with_rate}
use Rattle.bp_types.specs.Limits.{IsWithinLimits}
use Rattle.bp_types.proofs.RoomLemmas.{room_moved-inside, room_moved-before, moved_by_all, length-rooms_moved}
use Rattle.bp_residual.specs.Network.{Priced, IsPriced, ArePotentials, with_program}

-- rooms moved on one night alone
pub night_moved : (rooms : List ℕ) (night units value : ℕ) (up : Bool) → night < length rooms → moved (slice_index rooms night) up units ≡ value →
    rooms_moved rooms (record { from = night; to = night + 1 }) up units ≡ slice_set rooms night value
night_moved rooms night units value up h is =
    let s : Span = record { from = night; to = night + 1 } in
    let after : List ℕ = slice_set rooms night value in
    sym (moved_by_all rooms after s up units (length-set rooms night value) (λ k below. elim (cases_eq k night) [
      | inl here ↦
          let new = get_or-set_same rooms night value 0 h in
          let old = room_moved-inside rooms s up units night (omega arith) (omega arith) in
          ap (slice_index after) here ∙ new ∙ sym is ∙ sym old ∙ ap (room_moved rooms s up units) (sym here)
      | inr other ↦ get_or-set_other rooms night k value 0 other ∙ sym (room_moved-before rooms s up units k (omega arith))
    ]) (λ k past. get_or-set_other rooms night k value 0 (λ e. omega arith)))

-- a flow with potentials, on other rooms
pub rooms_keep_priced : (p : Priced) (q : Program) → IsPriced p → IsWithinLimits q → q.stays ≡ p.flow.program.stays →
    length q.rooms ≡ length p.flow.program.rooms → IsPriced (with_program p q)
rooms_keep_priced p q priced limits stays each =
    let forecast : (j : ℕ) → (stay_at q j).forecast ≡ (stay_at p.flow.program j).forecast =
    λ j. ap (λ (ss : List Stay). (slice_index_or ss j no_stay).forecast) stays in
    let one_length : length q.stays ≡ length p.flow.program.stays = ap (λ (ss : List Stay). length ss) stays in
    let P : ℕ → Type 0 = λ n. ArePotentials n p.potentials in
    record {
      limits = limits;
      flow = record {
        one_each_stay = priced.flow.one_each_stay ∙ sym one_length;
        one_each_night = priced.flow.one_each_night ∙ sym each;
        within_forecast = λ j h. let w = priced.flow.within_forecast j (omega (arith, one_length)) in omega (arith, w, forecast j);
      };
      spare = priced.spare;
      potentials = subst P (sym each) priced.potentials;
    }

-- so with rooms moved on a span
pub moved_rooms_keep_priced : (p : Priced) (q : Program) (s : Span) (up : Bool) (units : ℕ) → IsPriced p → IsWithinLimits q →
    q ≡ changed p.flow.program (Rooms s up units) → IsPriced (with_program p q)
moved_rooms_keep_priced p q s up units priced limits is =
    rooms_keep_priced p q priced limits (ap (λ (r : Program). r.stays) is) (ap (λ (r : Program). length r.rooms) is ∙
    length-rooms_moved p.flow.program.rooms s up units)

-- a flow with potentials, on stays that still ask for what is sold
stays_keep_priced : (p : Priced) (q : Program) → IsPriced p → IsWithinLimits q → q.rooms ≡ p.flow.program.rooms →
    length q.stays ≡ length p.flow.program.stays → ((j : ℕ) → j < length p.flow.program.stays → slice_index p.flow.sell j ≤ (stay_at q j).forecast) →
    IsPriced (with_program p q)
stays_keep_priced p q priced limits rooms each asked =
    let nights : length q.rooms ≡ length p.flow.program.rooms = ap (λ (rs : List ℕ). length rs) rooms in
    let P : ℕ → Type 0 = λ n. ArePotentials n p.potentials in
    record {
      limits = limits;
      flow = record {
        one_each_stay = priced.flow.one_each_stay ∙ sym each;
        one_each_night = priced.flow.one_each_night ∙ sym nights;
        within_forecast = λ j h. asked j (omega (arith, each));
      };
      spare = priced.spare;
      potentials = subst P (sym nights) priced.potentials;
    }

pub demand_keeps_priced : (p : Priced) (q : Program) (j value : ℕ) → IsPriced p → IsWithinLimits q → j < length p.flow.program.stays →
    slice_index p.flow.sell j ≤ value → q ≡ changed p.flow.program (Demand j value) → IsPriced (with_program p q)
demand_keeps_priced p q j value priced limits in_range sold is =
    let other : Stay = with_forecast (stay_at p.flow.program j) value in
    let stays : q.stays ≡ slice_set p.flow.program.stays j other = ap (λ (r : Program). r.stays) is in
    stays_keep_priced p q priced limits (ap (λ (r : Program). r.rooms) is) (ap (λ (ss : List Stay). length ss) stays ∙
    length-set p.flow.program.stays j other) (λ i h.
    let at : (stay_at q i).forecast ≡ (slice_index_or (slice_set p.flow.program.stays j other) i no_stay).forecast =
    ap (λ (ss : List Stay). (slice_index_or ss i no_stay).forecast) stays in
    elim (cases_eq i j) [
      | inl e ↦ let here = ap (λ (s : Stay). s.forecast) (get_or-set_same p.flow.program.stays j other no_stay in_range) in
          let a = ap (λ k. (slice_index_or (slice_set p.flow.program.stays j other) k no_stay).forecast) e in let b = ap (slice_index p.flow.sell) e in
          omega (arith, at, here, a, b, sold)
      | inr ne ↦ let same = ap (λ (s : Stay). s.forecast) (get_or-set_other p.flow.program.stays j i other no_stay ne) in
          omega (arith, at, same, priced.flow.within_forecast i h)
    ])

pub rate_keeps_priced : (p : Priced) (q : Program) (j value : ℕ) → IsPriced p → IsWithinLimits q → j < length p.flow.program.stays →
    q ≡ changed p.flow.program (Rate j value) → IsPriced (with_program p q)
rate_keeps_priced p q j value priced limits in_range is =
    let other : Stay = with_rate (stay_at p.flow.program j) value in
    let stays : q.stays ≡ slice_set p.flow.program.stays j other = ap (λ (r : Program). r.stays) is in
    stays_keep_priced p q priced limits (ap (λ (r : Program). r.rooms) is) (ap (λ (ss : List Stay). length ss) stays ∙
    length-set p.flow.program.stays j other) (λ i h.
    let at : (stay_at q i).forecast ≡ (slice_index_or (slice_set p.flow.program.stays j other) i no_stay).forecast =
    ap (λ (ss : List Stay). (slice_index_or ss i no_stay).forecast) stays in
    let was = priced.flow.within_forecast i h in
    elim (cases_eq i j) [
      | inl e ↦ let here = ap (λ (s : Stay). s.forecast) (get_or-set_same p.flow.program.stays j other no_stay in_range) in
          let a = ap (λ k. (slice_index_or (slice_set p.flow.program.stays j other) k no_stay).forecast) e in
          let b = ap (λ k. (stay_at p.flow.program k).forecast) e in omega (arith, at, here, a, b, was)
      | inr ne ↦ let same = ap (λ (s : Stay). s.forecast) (get_or-set_other p.flow.program.stays j i other no_stay ne) in omega (arith, at, same, was)
    ])
