-- A change of one stay's forecast and sold number.
use Rattle.std.proofs.Common.{
  ◌≡◌,
  ℕ,
  ◌+◌,
  ◌-◌,
  ◌<◌,
  ◌≤◌,
  ap,
  ◌∙◌,
  sym,
  arith,
  cond,
  List,
  length,
  slice_index,
  slice_set,
  inl,
  inr,
  subst,
  get_or-set_same,
  get_or-set_other,
  length-set,
}
use Rattle.std.proofs.lemmas.Bool.{cases_eq}
use Rattle.bp_types.specs.declared.stay.Span.{Span}
use Rattle.bp_types.specs.declared.stay.Stay.{Stay}
use Rattle.bp_types.specs.Sums.{sum_below}
use Rattle.bp_types.specs.Program.{covers, load, no_stay, stay_at}
use Rattle.bp_types.specs.Changes.{with_forecast}
use Rattle.bp_types.specs.Limits.{IsWithinLimits}
use Rattle.bp_types.proofs.SumLemmas.{sum_below-cong}
use Rattle.bp_residual.specs.Network.{
  Priced,
  Flow,
  sell_more,
  sell_less,
  spare_more,
  spare_less,
  Admits,
  IsFlow,
  IsSlack,
  IsNonNegative,
  carried,
  HasImbalance,
  IsBalanced,
}
use Rattle.bp_flow.specs.Solvers.{SetsDemand}
use Rattle.bp_residual.proofs.Pushes.{load-set, span_before, cond-add}

-- the flow with the stay's new numbers
abbrev demanded : Flow → ℕ → ℕ → ℕ → Flow
demanded f j forecast units =
    record {
      program = record { rooms = f.program.rooms; stays = slice_set f.program.stays j (with_forecast (stay_at f.program j) forecast) };
      sell = slice_set f.sell j units;
      spare = f.spare;
    }

stay_here : (f : Flow) (j forecast units : ℕ) → j < length f.program.stays →
    stay_at (demanded f j forecast units).program j ≡ with_forecast (stay_at f.program j) forecast
stay_here f j forecast units h = get_or-set_same f.program.stays j (with_forecast (stay_at f.program j) forecast) no_stay h

stay_other : (f : Flow) (j forecast units i : ℕ) → (i ≡ j → ⊥) → stay_at (demanded f j forecast units).program i ≡ stay_at f.program i
stay_other f j forecast units i ne = get_or-set_other f.program.stays j i (with_forecast (stay_at f.program j) forecast) no_stay ne

same_span : (f : Flow) (j forecast units i : ℕ) → j < length f.program.stays →
    (stay_at (demanded f j forecast units).program i).span ≡ (stay_at f.program i).span
same_span f j forecast units i h =
    elim (cases_eq i j) [
      | inl e ↦ ap (λ v. (stay_at (demanded f j forecast units).program v).span) e ∙ ap (λ (s : Stay). s.span) (stay_here f j forecast units h) ∙
          ap (λ v. (stay_at f.program v).span) (sym e)
      | inr ne ↦ ap (λ (s : Stay). s.span) (stay_other f j forecast units i ne)
    ]

-- what is carried changes by the stay's own number
demanded_carries : (f : Flow) (j forecast units n : ℕ) → IsFlow f → j < length f.program.stays →
    carried (demanded f j forecast units) n + cond (covers (stay_at f.program j).span n) (slice_index f.sell j) 0 ≡
    carried f n + cond (covers (stay_at f.program j).span n) units 0
demanded_carries f j forecast units n flow h =
    let g : Flow = demanded f j forecast units in
    let each : length g.program.stays ≡ length f.program.stays = length-set f.program.stays j (with_forecast (stay_at f.program j) forecast) in
    let spans : load g.program g.sell n ≡ load f.program g.sell n =
    ap (sum_below (λ i. cond (covers (stay_at g.program i).span n) (slice_index g.sell i) 0)) each
    ∙ sum_below-cong _ _ (length f.program.stays) (λ i l. ap (λ (s : Span). cond (covers s n) (slice_index g.sell i) 0) (same_span f j forecast units i h)) in
    omega (arith, spans, load-set f.program f.sell j units n h flow.one_each_stay)

-- no reduced cost is negative, where the stay's own two are not
demanded_slack : (f : Flow) (u : ℕ → ℕ) (j forecast units : ℕ) → IsFlow f → IsSlack f u → j < length f.program.stays →
    (units < forecast → u (stay_at f.program j).span.to + (stay_at f.program j).rate ≤ u (stay_at f.program j).span.from) →
    (0 < units → u (stay_at f.program j).span.from ≤ u (stay_at f.program j).span.to + (stay_at f.program j).rate) →
    IsSlack (demanded f j forecast units) u
demanded_slack f u j forecast units flow slack h short some (sell_more i) a =
    elim (cases_eq i j) [
      | inl e ↦
          let P : ℕ → Type 0 = λ v. IsNonNegative (demanded f j forecast units).program u (sell_more v) in
          let here = stay_here f j forecast units h in
          let sold : slice_index (slice_set f.sell j units) j ≡ units = get_or-set_same f.sell j units 0 (omega (arith, flow.one_each_stay)) in
          let left : units + 1 ≤ forecast = let Q : ℕ → Type 0 = λ v. Admits (demanded f j forecast units) (sell_more v) 1 in let b = (subst Q e a).1 in
          omega (arith, b, sold, ap (λ (s : Stay). s.forecast) here) in
          subst P (sym e) (omega (
            arith,
            short (omega arith),
            ap (λ (s : Stay). s.rate) here,
            ap (λ (s : Stay). u s.span.to) here,
            ap (λ (s : Stay). u s.span.from) here,
          ))
      | inr ne ↦
          let other = stay_other f j forecast units i ne in
          let sold = get_or-set_other f.sell j i units 0 ne in
          let each = length-set f.program.stays j (with_forecast (stay_at f.program j) forecast) in
          let old : IsNonNegative f.program u (sell_more i) =
          slack (sell_more i) (omega (arith, a.0, each), omega (arith, a.1, sold, ap (λ (s : Stay). s.forecast) other)) in
          omega (arith, old, ap (λ (s : Stay). s.rate) other, ap (λ (s : Stay). u s.span.to) other, ap (λ (s : Stay). u s.span.from) other)
    ]
demanded_slack f u j forecast units flow slack h short some (sell_less i) a =
    elim (cases_eq i j) [
      | inl e ↦
          let P : ℕ → Type 0 = λ v. IsNonNegative (demanded f j forecast units).program u (sell_less v) in
          let here = stay_here f j forecast units h in
          let sold : slice_index (slice_set f.sell j units) j ≡ units = get_or-set_same f.sell j units 0 (omega (arith, flow.one_each_stay)) in
          let left : 1 ≤ units = let Q : ℕ → Type 0 = λ v. Admits (demanded f j forecast units) (sell_less v) 1 in let b = (subst Q e a).1 in
          omega (arith, b, sold) in
          subst P (sym e) (omega (
            arith,
            some (omega arith),
            ap (λ (s : Stay). s.rate) here,
            ap (λ (s : Stay). u s.span.to) here,
            ap (λ (s : Stay). u s.span.from) here,
          ))
      | inr ne ↦
          let other = stay_other f j forecast units i ne in
          let sold = get_or-set_other f.sell j i units 0 ne in
          let each = length-set f.program.stays j (with_forecast (stay_at f.program j) forecast) in
          let old : IsNonNegative f.program u (sell_less i) = slack (sell_less i) (omega (arith, a.0, each), omega (arith, a.1, sold)) in
          omega (arith, old, ap (λ (s : Stay). s.rate) other, ap (λ (s : Stay). u s.span.to) other, ap (λ (s : Stay). u s.span.from) other)
    ]
demanded_slack f u j forecast units flow slack h short some (spare_more n) a = slack (spare_more n) a
demanded_slack f u j forecast units flow slack h short some (spare_less n) a = slack (spare_less n) a

-- the new value of a flow is the flow with the stay's new numbers
is_demanded : (p q : Priced) (j forecast units : ℕ) → SetsDemand p q j forecast units → q.flow ≡ demanded p.flow j forecast units
is_demanded p q j forecast units sets =
    let stays = sets.stays in
    let rooms = sets.rooms in
    let sell = sets.sell in
    let spare = sets.spare in
    let make : List ℕ → List Stay → List ℕ → List ℕ → Flow = λ r s y x. record { program = record { rooms = r; stays = s }; sell = y; spare = x } in
    ap (λ r. make r q.flow.program.stays q.flow.sell q.flow.spare) rooms ∙ ap (λ s. make p.flow.program.rooms s q.flow.sell q.flow.spare) stays ∙
    ap (λ y. make p.flow.program.rooms (demanded p.flow j forecast units).program.stays y q.flow.spare) sell ∙
    ap (λ x. make p.flow.program.rooms (demanded p.flow j forecast units).program.stays (demanded p.flow j forecast units).sell x) spare

pub demand_slack : (p q : Priced) (j forecast units : ℕ) → IsFlow p.flow → IsSlack p.flow (slice_index p.potentials) → j < length p.flow.program.stays →
    SetsDemand p q j forecast units →
    (units < forecast → slice_index p.potentials (stay_at p.flow.program j).span.to + (stay_at p.flow.program j).rate ≤ slice_index p.potentials
    (stay_at p.flow.program j).span.from) →
    (0 < units → slice_index p.potentials (stay_at p.flow.program j).span.from ≤ slice_index p.potentials (stay_at p.flow.program j).span.to +
    (stay_at p.flow.program j).rate) →
    IsSlack q.flow (slice_index q.potentials)
demand_slack p q j forecast units flow slack h sets short some =
    let P : Flow → Type 0 = λ g. IsSlack g (slice_index p.potentials) in
    let Q : List ℕ → Type 0 = λ us. IsSlack q.flow (slice_index us) in
    subst Q (sym sets.potentials)
    (subst P (sym (is_demanded p q j forecast units sets)) (demanded_slack p.flow (slice_index p.potentials) j forecast units flow slack h short some))

pub demand_carries : (p q : Priced) (j forecast units n : ℕ) → IsFlow p.flow → j < length p.flow.program.stays → SetsDemand p q j forecast units →
    carried q.flow n + cond (covers (stay_at p.flow.program j).span n) (slice_index p.flow.sell j) 0 ≡
    carried p.flow n + cond (covers (stay_at p.flow.program j).span n) units 0
demand_carries p q j forecast units n flow h sets =
    let e = ap (λ (g : Flow). carried g n) (is_demanded p q j forecast units sets) in
    omega (arith, e, demanded_carries p.flow j forecast units n flow h)

-- fewer sold: units are to go from the arrival to the departure
pub demand_falls : (p q : Priced) (j forecast units : ℕ) → IsWithinLimits p.flow.program → IsFlow p.flow → IsBalanced p.flow →
    j < length p.flow.program.stays → SetsDemand p q j forecast units → units ≤ slice_index p.flow.sell j →
    HasImbalance q.flow (stay_at p.flow.program j).span.from (stay_at p.flow.program j).span.to (slice_index p.flow.sell j - units)
demand_falls p q j forecast units limits flow balance h sets fewer n l =
    let s : Span = (stay_at p.flow.program j).span in
    let k = slice_index p.flow.sell j - units in
    let e : slice_index p.flow.sell j ≡ units + k = omega arith in
    let parts = ap (λ y. cond (covers s n) y 0) e ∙ cond-add (covers s n) units k in
    let same_rooms = ap (λ xs. slice_index xs n) sets.rooms in
    let each = ap (λ (xs : List ℕ). length xs) sets.rooms in
    omega (
      arith,
      demand_carries p q j forecast units n flow h sets,
      parts,
      balance n (omega (arith, l, each)),
      same_rooms,
      span_before s n k (omega (arith, (limits.spans j no_stay h).0)),
    )

-- more sold: units are to go back
pub demand_rises : (p q : Priced) (j forecast units : ℕ) → IsWithinLimits p.flow.program → IsFlow p.flow → IsBalanced p.flow →
    j < length p.flow.program.stays → SetsDemand p q j forecast units → slice_index p.flow.sell j ≤ units →
    HasImbalance q.flow (stay_at p.flow.program j).span.to (stay_at p.flow.program j).span.from (units - slice_index p.flow.sell j)
demand_rises p q j forecast units limits flow balance h sets more n l =
    let s : Span = (stay_at p.flow.program j).span in
    let k = units - slice_index p.flow.sell j in
    let e : units ≡ slice_index p.flow.sell j + k = omega arith in
    let parts = ap (λ y. cond (covers s n) y 0) e ∙ cond-add (covers s n) (slice_index p.flow.sell j) k in
    let same_rooms = ap (λ xs. slice_index xs n) sets.rooms in
    let each = ap (λ (xs : List ℕ). length xs) sets.rooms in
    omega (
      arith,
      demand_carries p q j forecast units n flow h sets,
      parts,
      balance n (omega (arith, l, each)),
      same_rooms,
      span_before s n k (omega (arith, (limits.spans j no_stay h).0)),
    )

pub demand_stays : (p q : Priced) (j forecast : ℕ) → IsWithinLimits p.flow.program → IsFlow p.flow → IsBalanced p.flow → j < length p.flow.program.stays →
    SetsDemand p q j forecast (slice_index p.flow.sell j) → IsBalanced q.flow
demand_stays p q j forecast limits flow balance h sets n l =
    let same_rooms = ap (λ xs. slice_index xs n) sets.rooms in
    let each = ap (λ (xs : List ℕ). length xs) sets.rooms in
    omega (arith, demand_carries p q j forecast (slice_index p.flow.sell j) n flow h sets, balance n (omega (arith, l, each)), same_rooms)
