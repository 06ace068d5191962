-- A start: units over an arc with as many rooms more, and what is carried stays the rooms.
use Rattle.std.proofs.Common.{◌≡◌, ℕ, ◌+◌, ◌*◌, ◌-◌, ◌<◌, ◌≤◌, ap, ◌∙◌, sym, subst, arith, [], ◌∷◌, true, length, slice_index, inl, inr}
use Rattle.std.proofs.lemmas.Bool.{cases_lt, cond-true, cond-false, lt-ltb, le-ltb}
use Rattle.bp_types.specs.declared.stay.Span.{Span}
use Rattle.bp_types.specs.declared.change.Change.TheVariants.{Rooms}
use Rattle.bp_types.specs.declared.limits.TheConstants.{MOST_UNITS}
use Rattle.bp_types.specs.Program.{Program, no_stay}
use Rattle.bp_types.specs.Changes.{changed}
use Rattle.bp_types.specs.Limits.{IsWithinLimits}
use Rattle.bp_types.proofs.RoomLemmas.{length-rooms_moved}
use Rattle.bp_residual.specs.declared.hop.Hop.{Hop}
use Rattle.bp_residual.specs.Network.{
  Priced,
  IsPriced,
  Flow,
  Step,
  IsFlow,
  sell_more,
  sell_less,
  spare_more,
  spare_less,
  tail,
  head,
  step_of,
  steps_of,
  arcs,
  room_of,
  Admits,
  FitsSpare,
  Takes,
  IsBalanced,
  IsSlack,
  IsNonNegative,
  HasImbalance,
  with_program,
  pushed,
  pushed_along,
  before,
}
use Rattle.bp_residual.proofs.Pushes.{carried-pushed}
use Rattle.bp_flow.specs.Solvers.{IsCarrying}
use Rattle.bp_flow.proofs.RoomSteps.{rise_imbalance}
use Rattle.bp_flow.proofs.ShiftStep.{spare_bound}

-- the hop over an arc forward
abbrev pub ahead : ℕ → Hop
ahead arc = record { arc = arc; forward = true }

-- what is said of each arc's step forward, said of stays and nights
by_arc : (p : Program) (P : Step → Type 0) → ((j : ℕ) → j < length p.stays → P (sell_more j)) → ((n : ℕ) → n < length p.rooms → P (spare_more n)) →
    (arc : ℕ) → arc < arcs p → P (step_of p (ahead arc))
by_arc p P stays nights arc h =
    elim (cases_lt arc (length p.stays)) [
      | inl stay ↦ subst P (sym (cond-true _ (sell_more arc) (spare_more (arc - length p.stays)) (lt-ltb _ _ stay))) (stays arc stay)
      | inr night ↦ subst P (sym (cond-false _ (sell_more arc) (spare_more (arc - length p.stays)) (le-ltb _ _ night)))
          (nights (arc - length p.stays) (omega (arith, h, night)))
    ]

pub arc_span : (p : Program) (arc : ℕ) → IsWithinLimits p → arc < arcs p → (tail p (step_of p (ahead arc)) < head p (step_of p (ahead arc))) ×
    (head p (step_of p (ahead arc)) ≤ length p.rooms)
arc_span p arc limits h =
    by_arc p (λ s. (tail p s < head p s) ×
    (head p s ≤ length p.rooms)) (λ j j_in. limits.spans j no_stay j_in) (λ n n_in. (omega arith, omega (arith, n_in))) arc h

arc_admits : (f : Flow) (arc units : ℕ) → IsFlow f → arc < arcs f.program → units ≤ room_of f (step_of f.program (ahead arc)) →
    Admits f (step_of f.program (ahead arc)) units
arc_admits f arc units flow h =
    by_arc f.program (λ s. units ≤ room_of f s →
    Admits f s units) (λ j j_in fits. (j_in, omega (arith, flow.within_forecast j j_in, fits))) (λ n n_in fits. n_in) arc h

arc_fits : (f : Flow) (arc units : ℕ) → arc < arcs f.program → ((n : ℕ) → n < length f.program.rooms → slice_index f.spare n + units ≤ 1000000000000) →
    FitsSpare f (step_of f.program (ahead arc)) units
arc_fits f arc units h fits = by_arc f.program (λ s. FitsSpare f s units) (λ j j_in. tt) (λ n n_in. fits n n_in) arc h

-- the arc takes the units once the rooms are there
pub grown_takes : (p r : Priced) (arc units : ℕ) (s : Span) → IsPriced p → IsPriced r → IsBalanced p.flow → arc < arcs p.flow.program → s.from ≤ s.to →
    units ≤ MOST_UNITS →
    units ≤ room_of p.flow (step_of p.flow.program (ahead arc)) → r ≡ with_program p (changed p.flow.program (Rooms s true units)) →
    Takes r.flow units (ahead arc)
grown_takes p r arc units s priced priced_r balance h ordered small room is =
    let each = length-rooms_moved p.flow.program.rooms s true units in
    let moved : Priced = with_program p (changed p.flow.program (Rooms s true units)) in
    let in_range : arc < arcs r.flow.program = omega (arith, h, ap (λ (q : Priced). arcs q.flow.program) is, each) in
    let R : Priced → Type 0 = λ q. units ≤ room_of q.flow (step_of q.flow.program (ahead arc)) in
    let imbalance : HasImbalance r.flow s.from s.to units = rise_imbalance p r s units ordered balance is in
    record {
      in_range = in_range;
      admits = arc_admits r.flow arc units priced_r.flow in_range (subst R (sym is) room);
      fits = arc_fits r.flow arc units in_range (λ n n_in. omega (arith, spare_bound r.flow s.from s.to units n priced_r.limits imbalance n_in, small));
    }

-- and then it carries exactly the rooms
pub grown : (program : Program) (p r g : Priced) (arc units : ℕ) (s : Span) → IsPriced r → IsCarrying program p →
    s.from ≡ tail p.flow.program (step_of p.flow.program (ahead arc)) → s.to ≡ head p.flow.program (step_of p.flow.program (ahead arc)) → s.from ≤ s.to →
    r ≡ with_program p (changed p.flow.program (Rooms s true units)) → Takes r.flow units (ahead arc) →
    g.flow ≡ pushed_along r.flow (steps_of r.flow.program (ahead arc ∷ [])) units → IsCarrying program g
grown program p r g arc units s priced_r carrying tail_is head_is ordered is takes pushed_is =
    let each = length-rooms_moved p.flow.program.rooms s true units in
    let step : Step = step_of r.flow.program (ahead arc) in
    let after : Flow = pushed r.flow step units in
    let nights : length r.flow.program.rooms ≡ length p.flow.program.rooms = ap (λ (q : Priced). length q.flow.program.rooms) is ∙ each in
    let t : tail r.flow.program step ≡ s.from = ap (λ (q : Priced). tail q.flow.program (step_of q.flow.program (ahead arc))) is ∙ sym tail_is in
    let h : head r.flow.program step ≡ s.to = ap (λ (q : Priced). head q.flow.program (step_of q.flow.program (ahead arc))) is ∙ sym head_is in
    let imbalance : HasImbalance r.flow s.from s.to units = rise_imbalance p r s units ordered carrying.balanced is in
    let balance : IsBalanced after = λ n n_in.
    omega (
      arith,
      carried-pushed r.flow step units priced_r.limits priced_r.flow takes.admits n n_in,
      imbalance n n_in,
      ap (λ v. units * before v n) t,
      ap (λ v. units * before v n) h,
    ) in
    let B : Flow → Type 0 = λ f. IsBalanced f in
    record {
      balanced = subst B (sym pushed_is) balance;
      stays = ap (λ (f : Flow). f.program.stays) pushed_is ∙ ap (λ (q : Priced). q.flow.program.stays) is ∙ carrying.stays;
      each = ap (λ (f : Flow). length f.program.rooms) pushed_is ∙ nights ∙ carrying.each;
    }

-- slackness, said of stays and nights
pub all_slack : (f : Flow) (u : ℕ → ℕ) →
    ((j : ℕ) → Admits f (sell_more j) 1 → IsNonNegative f.program u (sell_more j)) →
    ((j : ℕ) → Admits f (sell_less j) 1 → IsNonNegative f.program u (sell_less j)) →
    ((n : ℕ) → Admits f (spare_less n) 1 → IsNonNegative f.program u (spare_less n)) → ((n : ℕ) → n < length f.program.rooms → u (n + 1) ≤ u n) → IsSlack f u
all_slack f u more less spare falls (sell_more j) a = more j a
all_slack f u more less spare falls (sell_less j) a = less j a
all_slack f u more less spare falls (spare_more n) a = omega (arith, falls n a)
all_slack f u more less spare falls (spare_less n) a = spare n a
