-- Steps along kept ways: the ends of an imbalance move, and where all ways stand the prices are the least ones.
use Rattle.std.proofs.Common.{◌≡◌, ℕ, zero, suc, ◌+◌, ◌-◌, ◌<◌, ◌≤◌, ◌^◌, refl, ap, ◌∙◌, sym, subst, arith, List, [], ◌∷◌, length, slice_index, inl, inr}
use Rattle.std.proofs.lemmas.Bool.{cases_eq}
use Rattle.std.proofs.lemmas.List.FromFn.{length-map-range_with_len}
use Rattle.bp_types.specs.Limits.{IsWithinLimits}
use Rattle.bp_residual.specs.declared.hop.Hop.{Hop}
use Rattle.bp_residual.specs.Network.{
  Priced,
  IsPriced,
  Flow,
  Step,
  tail,
  head,
  Admits,
  Takes,
  IsSlack,
  IsBalanced,
  IsPath,
  path_cost,
  HasImbalance,
  arcs,
  step_of,
  steps_of,
  pushed,
  pushed_along,
  reduced_cost,
  room_of,
  nodes,
}
use Rattle.bp_residual.specs.Laws.{IsSettledBy}
use Rattle.bp_residual.proofs.Lifts.{ends_in_range, admits_room}
use Rattle.bp_residual.proofs.Augment.{push_moves_the_start, push_moves_the_end}
use Rattle.bp_residual.proofs.Least.{settled_prices_are_least}
use Rattle.bp_flow.specs.Settled.{IsSettledFlow}
use Rattle.bp_flow.specs.Shift.{IsShifting, IsOpenWay, StandsAt}
use Rattle.bp_flow.proofs.ShiftStep.{spare_bound, fits_any}
use Rattle.bp_flow.proofs.SettleStep.{falls, falls_sums}

pub open_way : (p : Priced) (units cost : ℕ) (h : Hop) → IsSlack p.flow (slice_index p.potentials) → h.arc < arcs p.flow.program →
    Admits p.flow (step_of p.flow.program h) 1 → cost ≡ reduced_cost p.flow.program (slice_index p.potentials) (step_of p.flow.program h) → cost ≡ 0 →
    units ≤ room_of p.flow (step_of p.flow.program h) → IsOpenWay p units h
open_way p units cost h slack in_range admits is none fits =
    let s : Step = step_of p.flow.program h in
    record {
      in_range = in_range;
      admits = admits_room p.flow s units admits fits;
      tight = omega (arith, slack s admits, is, none);
    }

pub way_takes : (p : Priced) (from to units : ℕ) (h : Hop) → IsWithinLimits p.flow.program → IsOpenWay p units h → units ≤ 10 ^ 11 →
    HasImbalance p.flow from to units → Takes p.flow units h
way_takes p from to units h limits way small imbalance =
    let s : Step = step_of p.flow.program h in
    record {
      in_range = way.in_range;
      admits = way.admits;
      fits = fits_any p.flow s units way.admits (λ n l. omega (arith, spare_bound p.flow from to units n limits imbalance l));
    }

pub start_moved : (p q : Priced) (start end units next : ℕ) (h : Hop) → IsPriced p → IsSlack p.flow (slice_index p.potentials) → IsOpenWay p units h →
    tail p.flow.program (step_of p.flow.program h) ≡ start → next ≡ head p.flow.program (step_of p.flow.program h) → HasImbalance p.flow start end units →
    q.flow ≡ pushed_along p.flow (steps_of p.flow.program (h ∷ [])) units → q.potentials ≡ p.potentials → IsShifting p q next end units × (next < nodes q)
start_moved p q start end units next h priced slack way leaves reaches imbalance pushed_is kept =
    let s : Step = step_of p.flow.program h in
    let u : ℕ → ℕ = slice_index p.potentials in
    let after : Flow = pushed p.flow s units in
    let I : ℕ → Type 0 = λ v. HasImbalance p.flow v end units in
    let J : ℕ → Type 0 = λ v. HasImbalance after v end units in
    let moved = push_moves_the_start p.flow u s end units priced.limits priced.flow slack way.tight way.admits (subst I (sym leaves) imbalance) in
    let S : Flow → Type 0 = λ f. IsSlack f u in
    let P : List ℕ → Type 0 = λ us. IsSlack q.flow (slice_index us) in
    let H : Flow → Type 0 = λ f. HasImbalance f next end units in
    let range = ends_in_range p.flow s units priced.limits way.admits in (
      record {
        program = ap (λ (f : Flow). f.program) pushed_is;
        slack = subst P (sym kept) (subst S (sym pushed_is) moved.1);
        imbalance = subst H (sym pushed_is) (subst J (sym reaches) moved.2);
      },
      omega (arith, range.1, reaches, ap (λ (f : Flow). length f.program.rooms) pushed_is),
    )

pub end_moved : (p q : Priced) (start end units next : ℕ) (h : Hop) → IsPriced p → IsSlack p.flow (slice_index p.potentials) → IsOpenWay p units h →
    head p.flow.program (step_of p.flow.program h) ≡ end → next ≡ tail p.flow.program (step_of p.flow.program h) → HasImbalance p.flow start end units →
    q.flow ≡ pushed_along p.flow (steps_of p.flow.program (h ∷ [])) units → q.potentials ≡ p.potentials → IsShifting p q start next units × (next < nodes q)
end_moved p q start end units next h priced slack way reaches leaves imbalance pushed_is kept =
    let s : Step = step_of p.flow.program h in
    let u : ℕ → ℕ = slice_index p.potentials in
    let after : Flow = pushed p.flow s units in
    let I : ℕ → Type 0 = λ v. HasImbalance p.flow start v units in
    let J : ℕ → Type 0 = λ v. HasImbalance after start v units in
    let moved = push_moves_the_end p.flow u s start units priced.limits priced.flow slack way.tight way.admits (subst I (sym reaches) imbalance) in
    let S : Flow → Type 0 = λ f. IsSlack f u in
    let P : List ℕ → Type 0 = λ us. IsSlack q.flow (slice_index us) in
    let H : Flow → Type 0 = λ f. HasImbalance f start next units in
    let range = ends_in_range p.flow s units priced.limits way.admits in (
      record {
        program = ap (λ (f : Flow). f.program) pushed_is;
        slack = subst P (sym kept) (subst S (sym pushed_is) moved.1);
        imbalance = subst H (sym pushed_is) (subst J (sym leaves) moved.2);
      },
      omega (arith, range.0, leaves, ap (λ (f : Flow). length f.program.rooms) pushed_is),
    )

pub not_moved : (p : Priced) (start end units : ℕ) → IsSlack p.flow (slice_index p.potentials) → HasImbalance p.flow start end units →
    IsShifting p p start end units
not_moved p start end units slack imbalance = record { program = refl; slack = slack; imbalance = imbalance }

pub moved_on : (p q r : Priced) (a b c d units : ℕ) → IsShifting p q a b units → IsShifting q r c d units → IsShifting p r c d units
moved_on p q r a b c d units first second = record { program = second.program ∙ first.program; slack = second.slack; imbalance = second.imbalance }

-- where the ends meet nothing is left
pub met : (f : Flow) (a b units : ℕ) → a ≡ b → HasImbalance f a b units → IsBalanced f
met f a b units same imbalance =
    let I : ℕ → Type 0 = λ v. HasImbalance f a v units in
    let at : HasImbalance f a a units = subst I (sym same) imbalance in
    λ n h. omega (arith, at n h)

-- each node has a residual path to the last one that costs nothing
free_path : (p : Priced) (ranks : List ℕ) → IsPriced p → ((v : ℕ) → v < length p.flow.program.rooms → StandsAt p ranks v) → (most v : ℕ) →
    v ≤ length p.flow.program.rooms → slice_index ranks v ≤ most →
    (path : List Step) × IsPath p.flow v (length p.flow.program.rooms) path × (path_cost p.flow.program (slice_index p.potentials) path ≡ 0)
free_path p ranks priced stand zero v v_in within =
    elim (cases_eq v (length p.flow.program.rooms)) [
      | inl e ↦ ([], e, refl)
      | inr ne ↦ absurd (let at = stand v (omega (arith, v_in, ne)) in omega (arith, at.3, within))
    ]
free_path p ranks priced stand (suc m) v v_in within =
    elim (cases_eq v (length p.flow.program.rooms)) [
      | inl e ↦ ([], e, refl)
      | inr ne ↦
          let at : StandsAt p ranks v = stand v (omega (arith, v_in, ne)) in
          let s : Step = step_of p.flow.program at.0 in
          let range = ends_in_range p.flow s 1 priced.limits at.1.admits in
          let rest = free_path p ranks priced stand m (head p.flow.program s) range.1 (omega (arith, at.3, within)) in
          (s ∷ rest.0, (at.2, at.1.admits, rest.1), omega (arith, rest.2, at.1.tight))
    ]

pub stand_settled : (p : Priced) (ranks : List ℕ) → IsPriced p → IsBalanced p.flow → IsSlack p.flow (slice_index p.potentials) →
    ((v : ℕ) → v < length p.flow.program.rooms → StandsAt p ranks v) → IsSettledFlow p
stand_settled p ranks priced balance slack stand =
    let u : ℕ → ℕ = slice_index p.potentials in
    let N = length p.flow.program.rooms in
    let by_settled : IsSettledBy p.flow u (λ v. 0) u = record {
      shortest = λ s a. omega arith;
      reached = λ v h. free_path p ranks priced stand (slice_index ranks v) v h (omega arith);
      lowered = λ v h. omega arith;
    } in
    settled_prices_are_least p.flow u (λ v. 0) u (falls u N) priced.limits priced.flow balance slack priced.potentials.last by_settled
    (length-map-range_with_len (λ k. u k - u (k + 1)) 0 N) (falls_sums u N priced.potentials.last priced.potentials.falls)
