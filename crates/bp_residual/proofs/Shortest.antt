-- Shortest distances to the last node: ways that begin as free arcs, each shortened while a residual step shortens one.
-- Who knows potentials of a flow cites `distances_exist`; no search has to run for it.
use Rattle.std.proofs.Common.{
  ◌≡◌,
  ℕ,
  zero,
  suc,
  ◌+◌,
  ◌-◌,
  ◌<◌,
  ◌≤◌,
  refl,
  ap,
  ◌∙◌,
  sym,
  subst,
  arith,
  cond,
  nat_eq,
  ◌⊎◌,
  inl,
  inr,
  List,
  [],
  ◌∷◌,
  length,
  slice_index,
}
use Rattle.std.proofs.lemmas.Bool.{cases_eq, cases_lt, cond-true, cond-false, eq-eqb, ne_eqb}
use Rattle.bp_types.specs.Program.{stay_at}
use Rattle.bp_types.specs.Limits.{IsWithinLimits}
use Rattle.bp_types.specs.Sums.{sum_below}
use Rattle.bp_types.proofs.SumLemmas.{sum_below-at}
use Rattle.bp_residual.specs.Network.{Flow, Step, sell_more, sell_less, spare_more, spare_less, tail, head, Admits, reduced_cost, IsPath, path_cost}
use Rattle.bp_residual.specs.Laws.{IsSettledBy}
use Rattle.bp_residual.proofs.Lifts.{ends_in_range}

-- a residual path from a node to the last one, of so great a reduced cost
abbrev IsWay : Flow → (ℕ → ℕ) → ℕ → ℕ → Type 0
IsWay f u v cost = (path : List Step) × IsPath f v (length f.program.rooms) path × (path_cost f.program u path ≡ cost)

-- each node has a way as long as its number, and none is longer than the potential
record HasWays (f : Flow) (u far : ℕ → ℕ) : Type 0 where
  way : (v : ℕ) → v ≤ length f.program.rooms → IsWay f u v (far v)
  below : (v : ℕ) → v ≤ length f.program.rooms → far v ≤ u v

-- the step makes no way shorter
abbrev Keeps : Flow → (ℕ → ℕ) → (ℕ → ℕ) → Step → Type 0
Keeps f u far s = Admits f s 1 → far (tail f.program s) ≤ reduced_cost f.program u s + far (head f.program s)

-- the way over the step is shorter than that of the node which it leaves
abbrev Shortens : Flow → (ℕ → ℕ) → (ℕ → ℕ) → Step → Type 0
Shortens f u far s = Admits f s 1 × (reduced_cost f.program u s + far (head f.program s) < far (tail f.program s))

-- ---- which it is can be told

admits_or_not : (f : Flow) (s : Step) → Admits f s 1 ⊎ (Admits f s 1 → ⊥)
admits_or_not f (sell_more j) =
    elim (cases_lt j (length f.program.stays)) [
      | inl here ↦ elim (cases_lt (slice_index f.sell j) (stay_at f.program j).forecast) [
        | inl room ↦ inl (here, omega (arith, room))
        | inr full ↦
            inr (λ a. omega (arith, a.1, full))
      ]
      | inr past ↦ inr (λ a. omega (arith, a.0, past))
    ]
admits_or_not f (sell_less j) =
    elim (cases_lt j (length f.program.stays)) [
      | inl here ↦ elim (cases_lt 0 (slice_index f.sell j)) [ inl some ↦ inl (here, omega (arith, some)) | inr none ↦ inr (λ a. omega (arith, a.1, none)) ]
      | inr past ↦ inr (λ a. omega (arith, a.0, past))
    ]
admits_or_not f (spare_more n) = elim (cases_lt n (length f.program.rooms)) [ inl here ↦ inl here | inr past ↦ inr (λ a. omega (arith, a, past)) ]
admits_or_not f (spare_less n) =
    elim (cases_lt n (length f.program.rooms)) [
      | inl here ↦ elim (cases_lt 0 (slice_index f.spare n)) [ inl some ↦ inl (here, omega (arith, some)) | inr none ↦ inr (λ a. omega (arith, a.1, none)) ]
      | inr past ↦ inr (λ a. omega (arith, a.0, past))
    ]

step_test : (f : Flow) (u far : ℕ → ℕ) (s : Step) → Keeps f u far s ⊎ Shortens f u far s
step_test f u far s =
    elim (cases_lt (reduced_cost f.program u s + far (head f.program s)) (far (tail f.program s))) [
      | inl less ↦ elim (admits_or_not f s) [ inl a ↦ inr (a, less) | inr full ↦ inl (λ a. absurd (full a)) ]
      | inr more ↦ inl (λ a. more)
    ]

-- of the numbers below a bound, all pass one test or one passes the other
all_or_one : (All One : ℕ → Type 0) → ((k : ℕ) → All k ⊎ One k) → (n : ℕ) → ((k : ℕ) → k < n → All k) ⊎ ((k : ℕ) × One k)
all_or_one All One test zero = inl (λ k h. absurd (omega arith))
all_or_one All One test (suc n) =
    elim (all_or_one All One test n) [
      | inl below ↦ elim (test n) [
        | inl here ↦ inl (λ k h. elim (cases_eq k n) [ inl e ↦ subst All (sym e) here | inr ne ↦ below k (omega arith) ])
        | inr found ↦ inr (n, found)
      ]
      | inr found ↦ inr found
    ]

all_or_shorter : (f : Flow) (u far : ℕ → ℕ) → ((s : Step) → Keeps f u far s) ⊎ ((s : Step) × Shortens f u far s)
all_or_shorter f u far =
    elim (over (length f.program.stays) sell_more) [
      | inr found ↦ inr (sell_more found.0, found.1)
      | inl more ↦ elim (over (length f.program.stays) sell_less) [
        | inr found ↦ inr (sell_less found.0, found.1)
        | inl less ↦ elim (over (length f.program.rooms) spare_more) [
          | inr found ↦ inr (spare_more found.0, found.1)
          | inl on ↦ elim (over (length f.program.rooms) spare_less) [
            | inr found ↦ inr (spare_less found.0, found.1)
            | inl back ↦ inl (by_kind more less on back)
          ]
        ]
      ]
    ]
  where
    over : (n : ℕ) (kind : ℕ → Step) → ((k : ℕ) → k < n → Keeps f u far (kind k)) ⊎ ((k : ℕ) × Shortens f u far (kind k))
    over n kind = all_or_one (λ k. Keeps f u far (kind k)) (λ k. Shortens f u far (kind k)) (λ k. step_test f u far (kind k)) n

    by_kind : ((j : ℕ) → j < length f.program.stays → Keeps f u far (sell_more j)) → ((j : ℕ) → j < length f.program.stays → Keeps f u far (sell_less j)) →
        ((n : ℕ) → n < length f.program.rooms → Keeps f u far (spare_more n)) → ((n : ℕ) → n < length f.program.rooms → Keeps f u far (spare_less n)) →
        (s : Step) → Keeps f u far s
    by_kind more less on back (sell_more j) a = more j a.0 a
    by_kind more less on back (sell_less j) a = less j a.0 a
    by_kind more less on back (spare_more n) a = on n a a
    by_kind more less on back (spare_less n) a = back n a.0 a

-- ---- a shorter way

-- the same numbers, but for one node
abbrev with_way : (ℕ → ℕ) → ℕ → ℕ → ℕ → ℕ
with_way far x cost v = cond (nat_eq v x) cost (far v)

way_here : (far : ℕ → ℕ) (x cost : ℕ) → with_way far x cost x ≡ cost
way_here far x cost = cond-true _ cost (far x) (eq-eqb x x refl)

way_elsewhere : (far : ℕ → ℕ) (x cost v : ℕ) → (v ≡ x → ⊥) → with_way far x cost v ≡ far v
way_elsewhere far x cost v other = cond-false _ cost (far v) (ne_eqb v x other)

-- the numbers after the step
abbrev shorter : Flow → (ℕ → ℕ) → (ℕ → ℕ) → Step → ℕ → ℕ
shorter f u far s = with_way far (tail f.program s) (reduced_cost f.program u s + far (head f.program s))

shortened : (f : Flow) (u far : ℕ → ℕ) (s : Step) → IsWithinLimits f.program → HasWays f u far → Shortens f u far s → HasWays f u (shorter f u far s)
shortened f u far s limits has shortens =
    let x = tail f.program s in
    let cost = reduced_cost f.program u s + far (head f.program s) in
    let ends = ends_in_range f s 1 limits shortens.0 in
    let on = has.way (head f.program s) ends.1 in
    let here : path_cost f.program u (s ∷ on.0) ≡ shorter f u far s x = ap (λ c. reduced_cost f.program u s + c) on.2 ∙ sym (way_here far x cost) in
    let Way : ℕ → Type 0 = λ v. IsWay f u v (shorter f u far s v) in
    record {
      way = λ v h. elim (cases_eq v x) [
        | inl e ↦ subst Way (sym e) (s ∷ on.0, (refl, shortens.0, on.1), here)
        | inr other ↦ let was = has.way v h in (was.0, was.1, was.2 ∙ sym (way_elsewhere far x cost v other))
      ];
      below = λ v h. elim (cases_eq v x) [
        | inl e ↦ omega (arith, ap (shorter f u far s) e, way_here far x cost, shortens.1, ap far e, has.below v h)
        | inr other ↦ omega (arith, way_elsewhere far x cost v other, has.below v h)
      ];
    }

-- the sum of the numbers falls
sum_falls : (f : Flow) (u far : ℕ → ℕ) (s : Step) → IsWithinLimits f.program → Shortens f u far s →
    sum_below (shorter f u far s) (length f.program.rooms + 1) < sum_below far (length f.program.rooms + 1)
sum_falls f u far s limits shortens =
    let x = tail f.program s in
    let cost = reduced_cost f.program u s + far (head f.program s) in
    let ends = ends_in_range f s 1 limits shortens.0 in
    let both = sum_below-at (shorter f u far s) far (length f.program.rooms + 1) x (omega (arith, ends.0)) (λ k h other. way_elsewhere far x cost k other) in
    omega (arith, both, way_here far x cost, shortens.1)

-- until no step shortens a way
shortest_ways : (f : Flow) (u : ℕ → ℕ) → IsWithinLimits f.program → (most : ℕ) (far : ℕ → ℕ) → sum_below far (length f.program.rooms + 1) ≤ most →
    HasWays f u far →
    (least : ℕ → ℕ) × HasWays f u least × ((s : Step) → Keeps f u least s)
shortest_ways f u limits zero far few has =
    elim (all_or_shorter f u far) [
      | inl keeps ↦ (far, has, keeps)
      | inr found ↦ absurd (omega (arith, few, sum_falls f u far found.0 limits found.1))
    ]
shortest_ways f u limits (suc most) far few has =
    elim (all_or_shorter f u far) [
      | inl keeps ↦ (far, has, keeps)
      | inr found ↦ shortest_ways f u limits most (shorter f u far found.0) (omega (arith, few, sum_falls f u far found.0 limits found.1))
          (shortened f u far found.0 limits has found.1)
    ]

-- ---- the ways to begin with

-- over the free arcs, as long as the potential
free_way : (f : Flow) (u : ℕ → ℕ) → u (length f.program.rooms) ≡ 0 → ((n : ℕ) → n < length f.program.rooms → u (n + 1) ≤ u n) → (left v : ℕ) →
    v + left ≡ length f.program.rooms → IsWay f u v (u v)
free_way f u last falls zero v e = let at : v ≡ length f.program.rooms = omega arith in ([], at, sym (ap u at ∙ last))
free_way f u last falls (suc left) v e =
    let on = free_way f u last falls left (v + 1) (omega arith) in
    (spare_more v ∷ on.0, (refl, omega (arith, e), on.1), omega (arith, on.2, falls v (omega (arith, e))))

pub distances_exist : (f : Flow) (u : ℕ → ℕ) → IsWithinLimits f.program → u (length f.program.rooms) ≡ 0 →
    ((n : ℕ) → n < length f.program.rooms → u (n + 1) ≤ u n) → (far : ℕ → ℕ) × IsSettledBy f u far (λ v. u v - far v)
distances_exist f u limits last falls =
    let free : HasWays f u u = record { way = λ v h. free_way f u last falls (length f.program.rooms - v) v (omega (arith, h)); below = λ v h. omega arith } in
    let found = shortest_ways f u limits (sum_below u (length f.program.rooms + 1)) u (omega arith) free in
    (found.0, record { shortest = found.2; reached = found.1.way; lowered = λ v h. omega (arith, found.1.below v h) })
