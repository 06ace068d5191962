-- A change of one stay's rate, where what is sold of it is right at both.
use Rattle.std.proofs.Common.{
  ◌≡◌,
  ℕ,
  ◌+◌,
  ◌<◌,
  ◌≤◌,
  ap,
  ◌∙◌,
  sym,
  arith,
  cond,
  List,
  length,
  slice_index,
  slice_set,
  inl,
  inr,
  subst,
  get_or,
  get_or-set_same,
  get_or-set_other,
  length-set,
}
use Rattle.std.proofs.lemmas.Bool.{cases_eq}
use Rattle.std.proofs.lemmas.List.{same_lists}
use Rattle.bp_types.specs.declared.stay.Span.{Span}
use Rattle.bp_types.specs.declared.stay.Stay.{Stay}
use Rattle.bp_types.specs.declared.change.Change.TheVariants.{Demand, Rate}
use Rattle.bp_types.specs.Sums.{sum_below}
use Rattle.bp_types.specs.Program.{Program, covers, load, no_stay, stay_at}
use Rattle.bp_types.specs.Changes.{changed, with_forecast, with_rate}
use Rattle.bp_types.proofs.SumLemmas.{sum_below-cong}
use Rattle.bp_residual.specs.Network.{
  Priced,
  IsPriced,
  Flow,
  sell_more,
  sell_less,
  spare_more,
  spare_less,
  Admits,
  IsFlow,
  IsSlack,
  IsNonNegative,
  carried,
  IsBalanced,
  with_program,
}
use Rattle.bp_flow.specs.Rates.{StandsAtRate}
use Rattle.bp_flow.specs.Solvers.{IsSolvedFlow}

-- the flow with the stay's new rate
abbrev rerated : Flow → ℕ → ℕ → Flow
rerated f j rate = record { program = changed f.program (Rate j rate); sell = f.sell; spare = f.spare }

stay_here : (f : Flow) (j rate : ℕ) → j < length f.program.stays → stay_at (rerated f j rate).program j ≡ with_rate (stay_at f.program j) rate
stay_here f j rate h = get_or-set_same f.program.stays j (with_rate (stay_at f.program j) rate) no_stay h

stay_other : (f : Flow) (j rate i : ℕ) → (i ≡ j → ⊥) → stay_at (rerated f j rate).program i ≡ stay_at f.program i
stay_other f j rate i ne = get_or-set_other f.program.stays j i (with_rate (stay_at f.program j) rate) no_stay ne

same_span : (f : Flow) (j rate i : ℕ) → j < length f.program.stays → (stay_at (rerated f j rate).program i).span ≡ (stay_at f.program i).span
same_span f j rate i h =
    elim (cases_eq i j) [
      | inl e ↦ ap (λ v. (stay_at (rerated f j rate).program v).span) e ∙ ap (λ (s : Stay). s.span) (stay_here f j rate h) ∙
          ap (λ v. (stay_at f.program v).span) (sym e)
      | inr ne ↦ ap (λ (s : Stay). s.span) (stay_other f j rate i ne)
    ]

-- what is carried stays
rerated_carries : (f : Flow) (j rate n : ℕ) → j < length f.program.stays → carried (rerated f j rate) n ≡ carried f n
rerated_carries f j rate n h =
    let g : Flow = rerated f j rate in
    let each : length g.program.stays ≡ length f.program.stays = length-set f.program.stays j (with_rate (stay_at f.program j) rate) in
    let spans : load g.program f.sell n ≡ load f.program f.sell n =
    ap (sum_below (λ i. cond (covers (stay_at g.program i).span n) (slice_index f.sell i) 0)) each
    ∙ sum_below-cong _ _ (length f.program.stays) (λ i l. ap (λ (s : Span). cond (covers s n) (slice_index f.sell i) 0) (same_span f j rate i h)) in
    omega (arith, spans)

-- what is sold of the stay is right at the new rate too
rerated_slack : (f : Flow) (u : ℕ → ℕ) (j rate : ℕ) → IsSlack f u → j < length f.program.stays
    → (slice_index f.sell j < (stay_at f.program j).forecast → u (stay_at f.program j).span.to + rate ≤ u (stay_at f.program j).span.from)
    → (0 < slice_index f.sell j → u (stay_at f.program j).span.from ≤ u (stay_at f.program j).span.to + rate) → IsSlack (rerated f j rate) u
rerated_slack f u j rate slack h more less (sell_more i) a =
    elim (cases_eq i j) [
      | inl e ↦
          let here = stay_here f j rate h in
          let Q : ℕ → Type 0 = λ v. Admits (rerated f j rate) (sell_more v) 1 in
          let b = (subst Q e a).1 in
          let N : ℕ → Type 0 = λ v. IsNonNegative (rerated f j rate).program u (sell_more v) in
          let right = more (omega (arith, b, ap (λ (s : Stay). s.forecast) here)) in
          subst N (sym e) (omega (arith, right, ap (λ (s : Stay). s.rate) here, ap (λ (s : Stay). u s.span.to) here, ap (λ (s : Stay). u s.span.from) here))
      | inr ne ↦
          let other = stay_other f j rate i ne in
          let each = length-set f.program.stays j (with_rate (stay_at f.program j) rate) in
          let old : IsNonNegative f.program u (sell_more i) =
          slack (sell_more i) (omega (arith, a.0, each), omega (arith, a.1, ap (λ (s : Stay). s.forecast) other)) in
          omega (arith, old, ap (λ (s : Stay). s.rate) other, ap (λ (s : Stay). u s.span.to) other, ap (λ (s : Stay). u s.span.from) other)
    ]
rerated_slack f u j rate slack h more less (sell_less i) a =
    elim (cases_eq i j) [
      | inl e ↦
          let here = stay_here f j rate h in
          let Q : ℕ → Type 0 = λ v. Admits (rerated f j rate) (sell_less v) 1 in
          let b = (subst Q e a).1 in
          let N : ℕ → Type 0 = λ v. IsNonNegative (rerated f j rate).program u (sell_less v) in
          let right = less (omega (arith, b)) in
          subst N (sym e) (omega (arith, right, ap (λ (s : Stay). s.rate) here, ap (λ (s : Stay). u s.span.to) here, ap (λ (s : Stay). u s.span.from) here))
      | inr ne ↦
          let other = stay_other f j rate i ne in
          let each = length-set f.program.stays j (with_rate (stay_at f.program j) rate) in
          let old : IsNonNegative f.program u (sell_less i) = slack (sell_less i) (omega (arith, a.0, each), a.1) in
          omega (arith, old, ap (λ (s : Stay). s.rate) other, ap (λ (s : Stay). u s.span.to) other, ap (λ (s : Stay). u s.span.from) other)
    ]
rerated_slack f u j rate slack h more less (spare_more n) a = slack (spare_more n) a
rerated_slack f u j rate slack h more less (spare_less n) a = slack (spare_less n) a

-- nothing is sold of a stay that nobody asks for, so each rate is right
pub unasked_stands : (p : Priced) (j rate : ℕ) → IsFlow p.flow → j < length p.flow.program.stays → (stay_at p.flow.program j).forecast ≡ 0 →
    StandsAtRate p j rate
unasked_stands p j rate flow h none =
    let within = flow.within_forecast j h in
    record {
      more = λ some. absurd (omega (arith, some, none));
      less = λ some. absurd (omega (arith, some, within, none));
    }

pub rerated_solved : (p q : Priced) (j rate : ℕ) → IsSolvedFlow p → IsPriced q → j < length p.flow.program.stays → StandsAtRate p j rate →
    q ≡ with_program p (changed p.flow.program (Rate j rate)) → IsSolvedFlow q
rerated_solved p q j rate solved priced h stands is =
    let B : Priced → Type 0 = λ r. IsBalanced r.flow in
    let S : Priced → Type 0 = λ r. IsSlack r.flow (slice_index r.potentials) in
    record {
      priced = priced;
      balanced = subst B (sym is) (λ n l. rerated_carries p.flow j rate n h ∙ solved.balanced n l);
      slack = subst S (sym is) (rerated_slack p.flow (slice_index p.potentials) j rate solved.slack h stands.more stands.less);
    }

-- ---- the forecast to 0, another rate, and the forecast back

set_twice : (xs : List Stay) (j : ℕ) (a b : Stay) → slice_set (slice_set xs j a) j b ≡ slice_set xs j b
set_twice xs j a b =
    let once : List Stay = slice_set xs j a in
    let each = length-set xs j a in
    same_lists (slice_set once j b) (slice_set xs j b) (length-set once j b ∙ each ∙ sym (length-set xs j b)) (λ k d h. elim (cases_eq k j) [
      | inl e ↦
          let in_range : j < length xs = omega (arith, length-set once j b, each) in
          let P : ℕ → Type 0 = λ v. get_or (slice_set once j b) v d ≡ get_or (slice_set xs j b) v d in
          subst P (sym e) (get_or-set_same once j b d (omega (arith, each)) ∙ sym (get_or-set_same xs j b d in_range))
      | inr ne ↦ get_or-set_other once j k b d ne ∙ get_or-set_other xs j k a d ne ∙ sym (get_or-set_other xs j k b d ne)
    ])

pub repriced : (p : Program) (j rate : ℕ) → j < length p.stays →
    changed (changed (changed p (Demand j 0)) (Rate j rate)) (Demand j (stay_at p j).forecast) ≡ changed p (Rate j rate)
repriced p j rate h =
    let s : Stay = stay_at p j in
    let none : Stay = with_forecast s 0 in
    let one : List Stay = slice_set p.stays j none in
    let p1 : Program = changed p (Demand j 0) in
    let p2 : Program = changed p1 (Rate j rate) in
    let at_one : stay_at p1 j ≡ none = get_or-set_same p.stays j none no_stay h in
    let in_one : j < length p1.stays = omega (arith, length-set p.stays j none) in
    let at_two : stay_at p2 j ≡ with_rate none rate = get_or-set_same p1.stays j (with_rate (stay_at p1 j) rate) no_stay in_one ∙
    ap (λ (z : Stay). with_rate z rate) at_one in
    let back : with_forecast (stay_at p2 j) s.forecast ≡ with_rate s rate = ap (λ (z : Stay). with_forecast z s.forecast) at_two in
    let stays : slice_set p2.stays j (with_forecast (stay_at p2 j) s.forecast) ≡ slice_set p.stays j (with_rate s rate) =
    set_twice p1.stays j (with_rate (stay_at p1 j) rate) (with_forecast (stay_at p2 j) s.forecast) ∙
    set_twice p.stays j none (with_forecast (stay_at p2 j) s.forecast) ∙ ap (λ (z : Stay). slice_set p.stays j z) back in
    let make : List Stay → Program = λ ss. record { rooms = p.rooms; stays = ss } in
    ap make stays

pub stays_kept : (p : Program) (j value : ℕ) → length (changed p (Demand j value)).stays ≡ length p.stays
stays_kept p j value = length-set p.stays j (with_forecast (stay_at p j) value)

pub demand_at : (p : Program) (j value : ℕ) → j < length p.stays → (stay_at (changed p (Demand j value)) j).forecast ≡ value
demand_at p j value h = ap (λ (s : Stay). s.forecast) (get_or-set_same p.stays j (with_forecast (stay_at p j) value) no_stay h)
