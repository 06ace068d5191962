-- Pushes over residual steps: what the flow carries, and that it stays a flow.
use Rattle.std.proofs.Common.{
  ◌≡◌,
  ℕ,
  ◌+◌,
  ◌*◌,
  ◌-◌,
  ◌<◌,
  ◌≤◌,
  refl,
  ap,
  ◌∙◌,
  sym,
  arith,
  Bool,
  true,
  false,
  cond,
  List,
  length,
  slice_index,
  slice_set,
  inl,
  inr,
  subst,
  get_or-set_same,
  get_or-set_other,
  length-set,
}
use Rattle.std.proofs.lemmas.Bool.{cases_eq, cases_lt, cond-true, cond-false, le-leb, lt-leb}
use Rattle.bp_types.specs.declared.stay.Span.{Span}
use Rattle.bp_types.specs.Program.{Program, no_stay, stay_at, covers, load}
use Rattle.bp_types.specs.Limits.{IsWithinLimits}
use Rattle.bp_types.proofs.SumLemmas.{sum_below-at}
use Rattle.bp_residual.specs.Network.{
  Flow,
  Step,
  sell_more,
  sell_less,
  spare_more,
  spare_less,
  tail,
  head,
  Admits,
  IsFlow,
  IsNonNegative,
  carried,
  before,
  pushed,
}
use Rattle.bp_residual.specs.Laws.{PushKeepsSlack}
use Rattle.bp_types.proofs.Spans.{covers_inside, covers_before, covers_past}

-- the load after a change of what is sold of one stay
pub load-set : (p : Program) (sell : List ℕ) (j y n : ℕ) → j < length p.stays → length sell ≡ length p.stays →
    load p (slice_set sell j y) n + cond (covers (stay_at p j).span n) (slice_index sell j) 0 ≡ load p sell n + cond (covers (stay_at p j).span n) y 0
load-set p sell j y n in_range one_each =
    let old : ℕ → ℕ = λ k. cond (covers (stay_at p k).span n) (slice_index sell k) 0 in
    let new : ℕ → ℕ = λ k. cond (covers (stay_at p k).span n) (slice_index (slice_set sell j y) k) 0 in
    let place : j < length sell = omega arith in
    let here : slice_index (slice_set sell j y) j ≡ y = get_or-set_same sell j y 0 place in
    let changed = sum_below-at new old (length p.stays) j in_range
    (λ k h ne. ap (λ z. cond (covers (stay_at p k).span n) z 0) (get_or-set_other sell j k y 0 ne)) in
    changed ∙ ap (λ z. load p sell n + cond (covers (stay_at p j).span n) z 0) here

-- a unit over a stay's span, by the nodes at its ends
pub span_before : (s : Span) (n units : ℕ) → s.from ≤ s.to → cond (covers s n) units 0 + units * before s.to n ≡ units * before s.from n
span_before s n units ordered =
    elim (cases_lt n s.from) [
      | inl left ↦ rw (cond-false _ units 0 (covers_before s.from s.to n left))
          (rw (before_no s.from n left) (rw (before_no s.to n (omega arith)) (omega arith)))
      | inr above ↦
          elim (cases_lt n s.to) [
            | inl inside ↦ rw (cond-true _ units 0 (covers_inside s.from s.to n above inside))
                (rw (before_yes s.from n above) (rw (before_no s.to n inside) (omega arith)))
            | inr past ↦ rw (cond-false _ units 0 (covers_past s.from s.to n past)) (rw (before_yes s.from n above) (rw (before_yes s.to n past) (omega arith)))
          ]
    ]
  where
    before_yes : (v n : ℕ) → v ≤ n → before v n ≡ 1
    before_yes v n h = cond-true _ 1 0 (le-leb v n h)

    before_no : (v n : ℕ) → n < v → before v n ≡ 0
    before_no v n h = cond-false _ 1 0 (lt-leb v n h)

pub cond-add : (b : Bool) (x y : ℕ) → cond b (x + y) 0 ≡ cond b x 0 + cond b y 0
cond-add true x y = refl
cond-add false x y = omega arith

-- the spare rooms after a change on one night
spare-set : (spare : List ℕ) (v y n : ℕ) → v < length spare →
    slice_index (slice_set spare v y) n + cond (covers (record { from = v; to = v + 1 }) n) (slice_index spare v) 0 ≡
    slice_index spare n + cond (covers (record { from = v; to = v + 1 }) n) y 0
spare-set spare v y n place =
    elim (cases_lt n v) [
      | inl left ↦ rw (cond-false _ (slice_index spare v) 0 (covers_before v (v + 1) n left))
          (rw (cond-false _ y 0 (covers_before v (v + 1) n left)) (ap (λ z. z + 0) (get_or-set_other spare v n y 0 (λ e. omega arith))))
      | inr above ↦
          elim (cases_lt v n) [
            | inl past ↦ rw (cond-false _ (slice_index spare v) 0 (covers_past v (v + 1) n (omega arith)))
                (rw (cond-false _ y 0 (covers_past v (v + 1) n (omega arith))) (ap (λ z. z + 0) (get_or-set_other spare v n y 0 (λ e. omega arith))))
            | inr here ↦
                let e : n ≡ v = omega arith in
                rw (cond-true _ (slice_index spare v) 0 (covers_inside v (v + 1) n above (omega arith)))
                (rw (cond-true _ y 0 (covers_inside v (v + 1) n above (omega arith))) (rw e (omega (arith, get_or-set_same spare v y 0 place))))
          ]
    ]

-- so many units cross each night between the nodes at the step's ends
pub carried-pushed : (f : Flow) (s : Step) (units : ℕ) → IsWithinLimits f.program → IsFlow f → Admits f s units → (n : ℕ) → n < length f.program.rooms →
    carried (pushed f s units) n + units * before (head f.program s) n ≡ carried f n + units * before (tail f.program s) n
carried-pushed f (sell_more j) units limits flow a n h =
    let span : Span = (stay_at f.program j).span in
    let range = limits.spans j no_stay a.0 in
    let change = load-set f.program f.sell j (slice_index f.sell j + units) n a.0 flow.one_each_stay in
    let more = cond-add (covers span n) (slice_index f.sell j) units in
    let nodes = span_before span n units (omega (arith, range.0)) in
    omega (arith, change, more, nodes)
carried-pushed f (sell_less j) units limits flow a n h =
    let span : Span = (stay_at f.program j).span in
    let range = limits.spans j no_stay a.0 in
    let rest = slice_index f.sell j - units in
    let change = load-set f.program f.sell j rest n a.0 flow.one_each_stay in
    let e : rest + units ≡ slice_index f.sell j = omega (arith, a.1) in
    let less : cond (covers span n) (slice_index f.sell j) 0 ≡ cond (covers span n) rest 0 + cond (covers span n) units 0 =
    ap (λ z. cond (covers span n) z 0) (sym e) ∙ cond-add (covers span n) rest units in
    let nodes = span_before span n units (omega (arith, range.0)) in
    omega (arith, change, less, nodes)
carried-pushed f (spare_more v) units limits flow a n h =
    let span : Span = record { from = v; to = v + 1 } in
    let change = spare-set f.spare v (slice_index f.spare v + units) n (omega (arith, flow.one_each_night)) in
    let more = cond-add (covers span n) (slice_index f.spare v) units in
    let nodes = span_before span n units (omega arith) in
    omega (arith, change, more, nodes)
carried-pushed f (spare_less v) units limits flow a n h =
    let span : Span = record { from = v; to = v + 1 } in
    let rest = slice_index f.spare v - units in
    let change = spare-set f.spare v rest n (omega (arith, a.0, flow.one_each_night)) in
    let e : rest + units ≡ slice_index f.spare v = omega (arith, a.1) in
    let less : cond (covers span n) (slice_index f.spare v) 0 ≡ cond (covers span n) rest 0 + cond (covers span n) units 0 =
    ap (λ z. cond (covers span n) z 0) (sym e) ∙ cond-add (covers span n) rest units in
    let nodes = span_before span n units (omega arith) in
    omega (arith, change, less, nodes)

-- a push leaves a flow
pub IsFlow-pushed : (f : Flow) (s : Step) (units : ℕ) → IsFlow f → Admits f s units → IsFlow (pushed f s units)
IsFlow-pushed f (sell_more j) units flow a =
    record {
      one_each_stay = length-set f.sell j (slice_index f.sell j + units) ∙ flow.one_each_stay;
      one_each_night = flow.one_each_night;
      within_forecast = λ k h. within_after f j (slice_index f.sell j + units) flow (omega (arith, a.1)) k h;
    }
  where
    within_after : (f : Flow) (j y : ℕ) → IsFlow f → y ≤ (stay_at f.program j).forecast → (k : ℕ) → k < length f.program.stays →
        slice_index (slice_set f.sell j y) k ≤ (stay_at f.program k).forecast
    within_after f j y flow fits k h =
        elim (cases_eq k j) [
          | inl e ↦ let same : slice_index (slice_set f.sell j y) j ≡ y = get_or-set_same f.sell j y 0 (omega (arith, flow.one_each_stay)) in
              rw e (omega (arith, same))
          | inr ne ↦ rw (get_or-set_other f.sell j k y 0 ne) (flow.within_forecast k h)
        ]
IsFlow-pushed f (sell_less j) units flow a =
    record {
      one_each_stay = length-set f.sell j (slice_index f.sell j - units) ∙ flow.one_each_stay;
      one_each_night = flow.one_each_night;
      within_forecast = λ k h. elim (cases_eq k j) [
        | inl e ↦ let same : slice_index (slice_set f.sell j (slice_index f.sell j - units)) j ≡ slice_index f.sell j - units =
            get_or-set_same f.sell j (slice_index f.sell j - units) 0 (omega (arith, flow.one_each_stay)) in let w = flow.within_forecast j (omega arith) in
            rw e (omega (arith, same, w))
        | inr ne ↦ rw (get_or-set_other f.sell j k (slice_index f.sell j - units) 0 ne) (flow.within_forecast k h)
      ];
    }
IsFlow-pushed f (spare_more v) units flow a =
    record {
      one_each_stay = flow.one_each_stay;
      one_each_night = length-set f.spare v (slice_index f.spare v + units) ∙ flow.one_each_night;
      within_forecast = flow.within_forecast;
    }
IsFlow-pushed f (spare_less v) units flow a =
    record {
      one_each_stay = flow.one_each_stay;
      one_each_night = length-set f.spare v (slice_index f.spare v - units) ∙ flow.one_each_night;
      within_forecast = flow.within_forecast;
    }

-- a push over a step of reduced cost 0 leaves none negative: the step back has cost 0 too
pub push_keeps_slack : PushKeepsSlack
push_keeps_slack f u (sell_more j) units flow slack tight (sell_more i) a =
    elim (cases_eq i j) [
      | inl e ↦ let P : ℕ → Type 0 = λ v. IsNonNegative f.program u (sell_more v) in subst P (sym e) (omega arith)
      | inr ne ↦ slack (sell_more i) (a.0, rw (get_or-set_other f.sell j i (slice_index f.sell j + units) 0 ne) at a.1)
    ]
push_keeps_slack f u (sell_more j) units flow slack tight (sell_less i) a =
    elim (cases_eq i j) [
      | inl e ↦ let P : ℕ → Type 0 = λ v. IsNonNegative f.program u (sell_less v) in subst P (sym e) (omega arith)
      | inr ne ↦ slack (sell_less i) (a.0, rw (get_or-set_other f.sell j i (slice_index f.sell j + units) 0 ne) at a.1)
    ]
push_keeps_slack f u (sell_more j) units flow slack tight (spare_more m) a = slack (spare_more m) a
push_keeps_slack f u (sell_more j) units flow slack tight (spare_less m) a = slack (spare_less m) a
push_keeps_slack f u (sell_less j) units flow slack tight (sell_more i) a =
    elim (cases_eq i j) [
      | inl e ↦ let P : ℕ → Type 0 = λ v. IsNonNegative f.program u (sell_more v) in subst P (sym e) (omega arith)
      | inr ne ↦ slack (sell_more i) (a.0, rw (get_or-set_other f.sell j i (slice_index f.sell j - units) 0 ne) at a.1)
    ]
push_keeps_slack f u (sell_less j) units flow slack tight (sell_less i) a =
    elim (cases_eq i j) [
      | inl e ↦ let P : ℕ → Type 0 = λ v. IsNonNegative f.program u (sell_less v) in subst P (sym e) (omega arith)
      | inr ne ↦ slack (sell_less i) (a.0, rw (get_or-set_other f.sell j i (slice_index f.sell j - units) 0 ne) at a.1)
    ]
push_keeps_slack f u (sell_less j) units flow slack tight (spare_more m) a = slack (spare_more m) a
push_keeps_slack f u (sell_less j) units flow slack tight (spare_less m) a = slack (spare_less m) a
push_keeps_slack f u (spare_more n) units flow slack tight (sell_more i) a = slack (sell_more i) a
push_keeps_slack f u (spare_more n) units flow slack tight (sell_less i) a = slack (sell_less i) a
push_keeps_slack f u (spare_more n) units flow slack tight (spare_more m) a = slack (spare_more m) a
push_keeps_slack f u (spare_more n) units flow slack tight (spare_less m) a =
    elim (cases_eq m n) [
      | inl e ↦ let P : ℕ → Type 0 = λ v. IsNonNegative f.program u (spare_less v) in subst P (sym e) (omega arith)
      | inr ne ↦ slack (spare_less m) (a.0, rw (get_or-set_other f.spare n m (slice_index f.spare n + units) 0 ne) at a.1)
    ]
push_keeps_slack f u (spare_less n) units flow slack tight (sell_more i) a = slack (sell_more i) a
push_keeps_slack f u (spare_less n) units flow slack tight (sell_less i) a = slack (sell_less i) a
push_keeps_slack f u (spare_less n) units flow slack tight (spare_more m) a = slack (spare_more m) a
push_keeps_slack f u (spare_less n) units flow slack tight (spare_less m) a =
    elim (cases_eq m n) [
      | inl e ↦ let P : ℕ → Type 0 = λ v. IsNonNegative f.program u (spare_less v) in subst P (sym e) (omega arith)
      | inr ne ↦ slack (spare_less m) (a.0, rw (get_or-set_other f.spare n m (slice_index f.spare n - units) 0 ne) at a.1)
    ]
