-- A booking of a stay that is sold: rooms, what is sold and the forecast fall together.
use Rattle.std.proofs.Common.{◌≡◌, ℕ, ◌+◌, ◌-◌, ◌<◌, ◌≤◌, ap, ◌∙◌, sym, subst, arith, cond, refl, false, length, slice_index}
use Rattle.bp_types.specs.declared.stay.Span.{Span}
use Rattle.bp_types.specs.declared.change.Change.TheVariants.{Rooms}
use Rattle.bp_types.specs.Program.{covers, stay_at}
use Rattle.bp_types.specs.Changes.{changed, HasUnits}
use Rattle.bp_types.proofs.RoomLemmas.{length-rooms_moved}
use Rattle.bp_residual.specs.Network.{Priced, sell_more, sell_less, IsFlow, IsSlack, IsBalanced, with_program}
use Rattle.bp_residual.proofs.Pushes.{cond-add}
use Rattle.bp_flow.specs.Solvers.{SetsDemand, IsSolvedFlow}
use Rattle.bp_flow.proofs.RoomSteps.{room_falls, moved_slack}
use Rattle.bp_flow.proofs.DemandSteps.{demand_carries, demand_slack}

-- the flow between: fewer rooms under the same flow
abbrev pub fewer : Priced → Span → ℕ → Priced
fewer p s units = with_program p (changed p.flow.program (Rooms s false units))

fewer_flow : (p : Priced) (s : Span) (units : ℕ) → IsFlow p.flow → IsFlow (fewer p s units).flow
fewer_flow p s units flow =
    record {
      one_each_stay = flow.one_each_stay;
      one_each_night = flow.one_each_night ∙ sym (length-rooms_moved p.flow.program.rooms s false units);
      within_forecast = flow.within_forecast;
    }

pub booked_balance : (p q r : Priced) (j forecast sold units : ℕ) (s : Span) → IsSolvedFlow p → j < length p.flow.program.stays →
    (stay_at p.flow.program j).span ≡ s → HasUnits p.flow.program s units → units ≤ slice_index p.flow.sell j → sold ≡ slice_index p.flow.sell j →
    q ≡ fewer p s units → SetsDemand q r j forecast (sold - units) → IsBalanced r.flow
booked_balance p q r j forecast sold units s solved h span_is enough some sold_is is sets =
    let P : Priced → Type 0 = λ x. SetsDemand x r j forecast (sold - units) in
    from_fewer (subst P is sets)
  where
    from_fewer : SetsDemand (fewer p s units) r j forecast (sold - units) → IsBalanced r.flow
    from_fewer set n l =
        let m : Priced = fewer p s units in
        let same_rooms = ap (λ xs. slice_index xs n) set.rooms in
        let each = ap (λ xs. length xs) set.rooms ∙ length-rooms_moved p.flow.program.rooms s false units in
        let n_in : n < length p.flow.program.rooms = omega (arith, l, each) in
        let whole : slice_index p.flow.sell j ≡ (sold - units) + units = omega (arith, sold_is, some) in
        let parts = ap (λ y. cond (covers s n) y 0) whole ∙ cond-add (covers s n) (sold - units) units in
        let spans = ap (λ (x : Span). cond (covers x n) (slice_index p.flow.sell j) 0) span_is in
        let spans_too = ap (λ (x : Span). cond (covers x n) (sold - units) 0) span_is in
        let carries = demand_carries m r j forecast (sold - units) n (fewer_flow p s units solved.priced.flow) h set in
        omega (arith, carries, spans, spans_too, parts, room_falls p.flow.program s units n enough n_in, solved.balanced n n_in, same_rooms)

pub booked_slack : (p q r : Priced) (j forecast sold units : ℕ) (s : Span) → IsSolvedFlow p → j < length p.flow.program.stays →
    units ≤ slice_index p.flow.sell j → sold ≡ slice_index p.flow.sell j → forecast ≡ (stay_at p.flow.program j).forecast - units →
    q ≡ fewer p s units → SetsDemand q r j forecast (sold - units) → IsSlack r.flow (slice_index r.potentials)
booked_slack p q r j forecast sold units s solved h some sold_is forecast_is is sets =
    let m : Priced = fewer p s units in
    let P : Priced → Type 0 = λ x. SetsDemand x r j forecast (sold - units) in
    let slack : IsSlack m.flow (slice_index m.potentials) = moved_slack p m s false units solved.slack refl in
    demand_slack m r j forecast (sold - units) (fewer_flow p s units solved.priced.flow) slack h (subst P is sets)
    (λ short. let cheap = solved.slack (sell_more j) (h, omega (arith, short, sold_is, forecast_is, some)) in omega (arith, cheap))
    (λ left. let dear = solved.slack (sell_less j) (h, omega (arith, left, sold_is)) in omega (arith, dear))
