-- Guessed distances that pass the test are the distances.
use Rattle.std.proofs.Common.{◌≡◌, ℕ, zero, suc, ◌+◌, ◌<◌, ◌≤◌, refl, ap, ◌∙◌, sym, subst, arith, true, false, List, [], ◌∷◌, length, slice_index, inl, inr}
use Rattle.std.proofs.lemmas.Bool.{cases_eq}
use Rattle.bp_types.specs.Limits.{IsWithinLimits}
use Rattle.bp_residual.specs.declared.hop.Hop.{Hop}
use Rattle.bp_residual.specs.Network.{Priced, Flow, Step, tail, head, Admits, step_of, IsPath, path_cost, nodes}
use Rattle.bp_residual.specs.Index.{AreHopsAt, hop_at}
use Rattle.bp_residual.proofs.Lifts.{ends_in_range}
use Rattle.bp_paths.specs.Labels.{cost, arc_of}
use Rattle.bp_paths.specs.Mended.{GrowsFrom, IsRightAt}
use Rattle.bp_paths.specs.Paths.{AreDistancesTo}
use Rattle.bp_paths.proofs.Hops.{one_of_two, arc_in_range}

-- a residual step is that of one of the hops that leave its tail
pub hop_of_step : (f : Flow) (s : Step) (x : ℕ) (hops : List Hop) → AreHopsAt f.program x hops → Admits f s 1 → tail f.program s ≡ x →
    (i : ℕ) × (i < length hops) × (s ≡ step_of f.program (hop_at hops i))
hop_of_step f s x hops at a t =
    elim (one_of_two f s (arc_of f.program s) a refl) [
      | inl same ↦
          let g : Hop = record { arc = arc_of f.program s; forward = true } in
          let place = at.found g (arc_in_range f s 1 a) (sym (ap (tail f.program) same) ∙ t) in
          (place.0, place.1, same ∙ ap (step_of f.program) (sym place.2))
      | inr same ↦
          let g : Hop = record { arc = arc_of f.program s; forward = false } in
          let place = at.found g (arc_in_range f s 1 a) (sym (ap (tail f.program) same) ∙ t) in
          (place.0, place.1, same ∙ ap (step_of f.program) (sym place.2))
    ]

-- the hop at a place, and those before it, keep what the test asks
abbrev pub GrowsBelow : Priced → List ℕ → ℕ → List Hop → ℕ → Type 0
GrowsBelow p kept reach hops count = (i : ℕ) → i < count → Admits p.flow (step_of p.flow.program (hop_at hops i)) 1 →
    reach ≤ cost p (step_of p.flow.program (hop_at hops i)) + slice_index kept (head p.flow.program (step_of p.flow.program (hop_at hops i)))

pub grows_by_hops : (p : Priced) (kept : List ℕ) (v reach : ℕ) (hops : List Hop) → AreHopsAt p.flow.program v hops → reach ≡ slice_index kept v →
    GrowsBelow p kept reach hops (length hops) → GrowsFrom p kept v
grows_by_hops p kept v reach hops at is below s a t =
    let hop = hop_of_step p.flow s v hops at a t in
    let P : Step → Type 0 = λ x. Admits p.flow x 1 in
    let Q : Step → Type 0 = λ x. reach ≤ cost p x + slice_index kept (head p.flow.program x) in
    let here : reach ≤ cost p s + slice_index kept (head p.flow.program s) = subst Q (sym hop.2) (below hop.0 hop.1 (subst P hop.2 a)) in
    omega (arith, here, is)

-- along the hops that lead on, each node has a residual path of its length
path_on : (p : Priced) (to : ℕ) (kept ranks : List ℕ) → IsWithinLimits p.flow.program → slice_index kept to ≡ 0 →
    ((v : ℕ) → v < nodes p → IsRightAt p to kept ranks v) → (most v : ℕ) → v < nodes p → slice_index ranks v ≤ most →
    (path : List Step) × IsPath p.flow v to path × (path_cost p.flow.program (slice_index p.potentials) path ≡ slice_index kept v)
path_on p to kept ranks limits end right zero v v_in within =
    elim (cases_eq v to) [
      | inl e ↦ ([], e, let g = ap (slice_index kept) e in omega (arith, g, end))
      | inr ne ↦ absurd (let way = (right v v_in).leads ne in omega (arith, way.1.falls, within))
    ]
path_on p to kept ranks limits end right (suc most) v v_in within =
    elim (cases_eq v to) [
      | inl e ↦ ([], e, let g = ap (slice_index kept) e in omega (arith, g, end))
      | inr ne ↦
          let way = (right v v_in).leads ne in
          let s : Step = step_of p.flow.program way.0 in
          let head_in = (ends_in_range p.flow s 1 limits way.1.admits).1 in
          let rest = path_on p to kept ranks limits end right most (head p.flow.program s) (omega (arith, head_in)) (omega (arith, way.1.falls, within)) in
          (s ∷ rest.0, (way.1.leaves, way.1.admits, rest.1), omega (arith, rest.2, way.1.adds))
    ]

-- and no residual path is shorter
none_shorter : (p : Priced) (to : ℕ) (kept ranks : List ℕ) → IsWithinLimits p.flow.program → slice_index kept to ≡ 0 →
    ((v : ℕ) → v < nodes p → IsRightAt p to kept ranks v) → (v : ℕ) (path : List Step) → v < nodes p → IsPath p.flow v to path →
    slice_index kept v ≤ path_cost p.flow.program (slice_index p.potentials) path
none_shorter p to kept ranks limits end right v [] v_in is = let g = ap (slice_index kept) is in omega (arith, g, end)
none_shorter p to kept ranks limits end right v (s ∷ ss) v_in is =
    let head_in = (ends_in_range p.flow s 1 limits is.1).1 in
    let rest = none_shorter p to kept ranks limits end right (head p.flow.program s) ss (omega (arith, head_in)) is.2 in
    omega (arith, (right v v_in).grows s is.1 is.0, rest)

pub right_distances : (p : Priced) (to : ℕ) (kept ranks : List ℕ) → IsWithinLimits p.flow.program → length kept ≡ nodes p → slice_index kept to ≡ 0 →
    ((v : ℕ) → v < nodes p → IsRightAt p to kept ranks v) → AreDistancesTo p to kept
right_distances p to kept ranks limits each end right =
    record {
      each = each;
      end = end;
      grows = λ s a. let tail_in = (ends_in_range p.flow s 1 limits a).0 in (right (tail p.flow.program s) (omega (arith, tail_in))).grows s a refl;
      reached = λ v v_in near. path_on p to kept ranks limits end right (slice_index ranks v) v v_in (omega arith);
      unreached = λ v path v_in is. (right v v_in).near;
      shortest = λ v path v_in is. none_shorter p to kept ranks limits end right v path v_in is;
    }
