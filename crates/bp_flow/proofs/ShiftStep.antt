-- One augmentation keeps the reduced costs from being negative, and lessens the imbalance.
use Rattle.std.proofs.Common.{◌≡◌, ℕ, zero, suc, ◌+◌, ◌-◌, ◌*◌, ◌^◌, ◌<◌, ◌≤◌, min, ap, ◌∙◌, sym, arith, List, get_or, length, slice_index, inl, inr, subst}
use Rattle.std.specs.List.{All}
use Rattle.std.proofs.Math.Nat.{mul-le-mul_left}
use Rattle.std.proofs.lemmas.Bool.{cases_lt, cond-true, cond-false, le-leb, lt-leb}
use Rattle.bp_types.specs.declared.limits.TheConstants.{MOST_PRICE, MOST_UNITS}
use Rattle.bp_types.specs.Program.{no_stay}
use Rattle.bp_types.specs.Limits.{IsWithinLimits}
use Rattle.bp_residual.specs.declared.hop.Hop.{Hop}
use Rattle.bp_residual.specs.Network.{
  Priced,
  IsPriced,
  Flow,
  Step,
  sell_more,
  sell_less,
  spare_more,
  spare_less,
  Admits,
  FitsSpare,
  Takes,
  step_of,
  steps_of,
  IsSlack,
  path_cost,
  pushed_along,
  HasImbalance,
  before,
  greatest_spare,
  nodes,
}
use Rattle.bp_residual.specs.Laws.{GrowsAlong}
use Rattle.bp_residual.proofs.Lifts.{lift_keeps_slack, limit_keeps_slack}
use Rattle.bp_residual.proofs.Augment.{shortest_paths_become_tight, push_moves_imbalance}
use Rattle.bp_residual.proofs.PushLoop.{admits_along}
use Rattle.bp_residual.proofs.Paths.{path_joins}
use Rattle.bp_paths.specs.Paths.{ScratchView, IsShortestPath, AreDistancesBelow}
use Rattle.bp_paths.proofs.Answer.{admits_fewer}
use Rattle.bp_flow.specs.Shift.{IsLiftedBy, IsShifting}

-- ---- what a push takes

before_le : (v n units : ℕ) → units * before v n ≤ units
before_le v n units =
    let h : before v n ≤ 1 = elim (cases_lt n v) [ inl l ↦ omega (arith, no v n l) | inr g ↦ omega (arith, at v n g) ] in
    omega (arith, mul-le-mul_left units h)
  where
    no : (v n : ℕ) → n < v → before v n ≡ 0
    no v n l = cond-false _ 1 0 (lt-leb v n l)

    at : (v n : ℕ) → v ≤ n → before v n ≡ 1
    at v n g = cond-true _ 1 0 (le-leb v n g)

-- no spare number is greater than the rooms and what is still to move
pub spare_bound : (f : Flow) (from to units n : ℕ) → IsWithinLimits f.program → HasImbalance f from to units → n < length f.program.rooms →
    slice_index f.spare n ≤ MOST_UNITS + units
spare_bound f from to units n limits imbalance h = omega (arith, imbalance n h, before_le to n units, limits.rooms n 0 h)

pub fits_any : (f : Flow) (s : Step) (units : ℕ) → Admits f s units →
    ((n : ℕ) → n < length f.program.rooms → slice_index f.spare n + units ≤ greatest_spare) → FitsSpare f s units
fits_any f (sell_more j) units a fits = tt
fits_any f (sell_less j) units a fits = tt
fits_any f (spare_more n) units a fits = fits n a
fits_any f (spare_less n) units a fits = tt

pub path_takes : (p : Priced) (from to units amount left : ℕ) (kept : ScratchView) → IsWithinLimits p.flow.program → IsShortestPath p from to units kept →
    amount ≤ units → amount ≤ left → left ≤ 10 ^ 11 → HasImbalance p.flow from to left → All (Takes p.flow amount) kept.path
path_takes p from to units amount left kept limits shortest fewer within small imbalance k d h =
    let hop : Hop = get_or kept.path k d in
    let s : Step = step_of p.flow.program hop in
    let a : Admits p.flow s amount = admits_fewer p.flow s units amount fewer (shortest.admits k d h) in
    record {
      in_range = shortest.in_range k d h;
      admits = a;
      fits = fits_any p.flow s amount a (λ n l. omega (arith, spare_bound p.flow from to left n limits imbalance l));
    }

-- ---- the step

-- the lifted potentials fall
falls_to_last : (u by : ℕ → ℕ) (last : ℕ) → ((n : ℕ) → n < last → u (n + 1) + by (n + 1) ≤ u n + by n) → (d v : ℕ) → v + d ≡ last → by last ≤ u v + by v
falls_to_last u by last falls zero v e = let at = ap by e in let same : v + 0 ≡ v = omega arith in omega (arith, at, ap by same)
falls_to_last u by last falls (suc d) v e = omega (arith, falls v (omega arith), falls_to_last u by last falls d (v + 1) (omega arith))

pub augmented : (p : Priced) (from to units amount left : ℕ) (kept : ScratchView) (q : List ℕ) → IsPriced p → to < nodes p →
    IsSlack p.flow (slice_index p.potentials) → AreDistancesBelow p from (slice_index kept.distances to) kept.distances →
    IsShortestPath p from to units kept → amount ≤ left → HasImbalance p.flow from to left → All (Takes p.flow amount) kept.path →
    IsLiftedBy (length p.flow.program.rooms) p.potentials q (slice_index kept.distances) (slice_index kept.distances to) →
    IsSlack (pushed_along p.flow (steps_of p.flow.program kept.path) amount) (slice_index q) ×
    HasImbalance (pushed_along p.flow (steps_of p.flow.program kept.path) amount) from to (left - amount)
augmented p from to units amount left kept q priced to_in slack distances shortest within imbalance takes lifted_by =
    let f : Flow = p.flow in
    let N = length f.program.rooms in
    let path : List Step = steps_of f.program kept.path in
    let u : ℕ → ℕ = slice_index p.potentials in
    let target = slice_index kept.distances to in
    let by : ℕ → ℕ = λ v. min (slice_index kept.distances v) target in
    let grows : GrowsAlong f u by = distances.grows in
    let cost : by to ≡ by from + path_cost f.program u path = omega (arith, distances.start, shortest.distance) in
    let c = by N in
    let lifted : ℕ → ℕ = λ v. (u v + by v) - c in
    let falls : (n : ℕ) → n < N → u (n + 1) + by (n + 1) ≤ u n + by n = λ n h.
    let step = slack (spare_more n) h in
    let growth = grows (spare_more n) h in
    omega (arith, step, growth) in
    let above : (v : ℕ) → v ≤ N → c ≤ u v + by v = λ v h. falls_to_last u by N falls (N - v) v (omega arith) in
    let lifts : (v : ℕ) → v ≤ N → lifted v + c ≡ u v + by v = λ v h. omega (arith, above v h) in
    let lifted_slack : IsSlack f lifted = lift_keeps_slack f u by lifted c priced.limits slack grows lifts in
    let tight = shortest_paths_become_tight f u by lifted c from to path priced.limits slack grows shortest.is_path cost lifts in
    let e : left ≡ amount + (left - amount) = omega arith in
    let P : ℕ → Type 0 = λ k. HasImbalance f from to k in
    let moved = push_moves_imbalance f lifted path from to amount (left - amount) priced.limits priced.flow lifted_slack tight
    (path_joins f from to path shortest.is_path) (admits_along f kept.path amount shortest.once takes) (subst P e imbalance) in (
      limit_keeps_slack (pushed_along f path amount) lifted (slice_index q) MOST_PRICE priced.limits (λ j h. (priced.limits.rates j no_stay h).1) moved.1
          (λ n h. omega (arith, lifted_by.price n h, above n (omega arith), above (n + 1) (omega arith), falls n h)),
      moved.2,
    )

-- the same for the flow after the push, and after the lift
pub shifted : (p r g : Priced) (from to units amount left : ℕ) (kept : ScratchView) (hops : List Hop) → IsPriced p → to < nodes p →
    IsSlack p.flow (slice_index p.potentials) → AreDistancesBelow p from (slice_index kept.distances to) kept.distances →
    IsShortestPath p from to units kept → hops ≡ kept.path → amount ≤ units → amount ≤ left → left ≤ 10 ^ 11 → HasImbalance p.flow from to left →
    r.flow ≡ pushed_along p.flow (steps_of p.flow.program hops) amount → r.potentials ≡ p.potentials → g.flow ≡ r.flow →
    IsLiftedBy (length r.flow.program.rooms) r.potentials g.potentials (slice_index kept.distances) (slice_index kept.distances to) →
    IsShifting p g from to (left - amount)
shifted p r g from to units amount left kept hops priced to_in slack distances shortest hops_are fewer within small imbalance pushed_is kept_is lifted_is
    lifted_by =
    let f1 : Flow = pushed_along p.flow (steps_of p.flow.program kept.path) amount in
    let r_is : r.flow ≡ f1 = pushed_is ∙ ap (λ hs. pushed_along p.flow (steps_of p.flow.program hs) amount) hops_are in
    let g_is : g.flow ≡ f1 = lifted_is ∙ r_is in
    let L : List ℕ → Type 0 = λ old. IsLiftedBy (length r.flow.program.rooms) old g.potentials (slice_index kept.distances) (slice_index kept.distances to) in
    let N : Flow → Type 0 = λ x. IsLiftedBy (length x.program.rooms) p.potentials g.potentials (slice_index kept.distances) (slice_index kept.distances to) in
    let facts = augmented p from to units amount left kept g.potentials priced to_in slack distances shortest within imbalance
    (path_takes p from to units amount left kept priced.limits shortest fewer within small imbalance) (subst N r_is (subst L kept_is lifted_by)) in
    let S : Flow → Type 0 = λ x. IsSlack x (slice_index g.potentials) in
    let H : Flow → Type 0 = λ x. HasImbalance x from to (left - amount) in
    record {
      program = ap (λ (x : Flow). x.program) g_is;
      slack = subst S (sym g_is) facts.0;
      imbalance = subst H (sym g_is) facts.1;
    }
