-- The potentials lowered by the distances to the last node: the prices are the least ones.
use Rattle.std.proofs.Common.{◌≡◌, ℕ, zero, suc, ◌+◌, ◌-◌, ◌<◌, ◌≤◌, ap, ◌∙◌, sym, arith, List, map, length, slice_index, subst}
use Rattle.std.specs.List.{range_with_len, All}
use Rattle.std.proofs.lemmas.List.{same_lists, get_or_default}
use Rattle.std.proofs.lemmas.List.FromFn.{length-map-range_with_len, get_or-map-range_with_len}
use Rattle.bp_types.specs.declared.limits.TheConstants.{MOST_PRICE}
use Rattle.bp_types.specs.Program.{no_stay}
use Rattle.bp_types.specs.Optimum.{AreSuffixSums, AreLeastPrices}
use Rattle.bp_residual.specs.Network.{Priced, IsPriced, Flow, spare_more, IsSlack, IsBalanced, IsLifted}
use Rattle.bp_residual.specs.Laws.{IsSettledBy}
use Rattle.bp_residual.proofs.Lifts.{lift_keeps_slack}
use Rattle.bp_residual.proofs.Paths.{reaches_later}
use Rattle.bp_residual.proofs.Least.{settled_prices_are_least, settled_is_slack}
use Rattle.bp_residual.proofs.LeastLaws.{least_prices_are_within_rates}
use Rattle.bp_paths.specs.Paths.{AreDistancesTo}
use Rattle.bp_flow.specs.Settled.{IsSettledFlow, AreFalls}

abbrev pub falls : (ℕ → ℕ) → ℕ → List ℕ
falls w n = map (λ k. w k - w (k + 1)) (range_with_len 0 n)

pub falls_at : (w : ℕ → ℕ) (n k : ℕ) → k < n → slice_index (falls w n) k ≡ w k - w (k + 1)
falls_at w n k h = get_or-map-range_with_len (λ k. w k - w (k + 1)) 0 n k k 0 h (omega arith)

pub falls_sums : (w : ℕ → ℕ) (n : ℕ) → w n ≡ 0 → ((k : ℕ) → k < n → w (k + 1) ≤ w k) → AreSuffixSums w (falls w n)
falls_sums w n last down =
    let len : length (falls w n) ≡ n = length-map-range_with_len (λ k. w k - w (k + 1)) 0 n in
    record {
      last = ap w len ∙ last;
      falls = λ k h. let k_in : k < n = omega (arith, len) in omega (arith, falls_at w n k k_in, down k k_in);
    }

-- two lists of falls are one where the numbers are
falls_same : (v w : ℕ → ℕ) (n : ℕ) → ((k : ℕ) → k ≤ n → v k ≡ w k) → falls v n ≡ falls w n
falls_same v w n same =
    same_lists (falls v n) (falls w n) (length-map-range_with_len (λ k. v k - v (k + 1)) 0 n ∙
    sym (length-map-range_with_len (λ k. w k - w (k + 1)) 0 n)) (λ k d h.
    let k_in : k < n = omega (arith, length-map-range_with_len (λ k. v k - v (k + 1)) 0 n) in
    let e : slice_index (falls v n) k ≡ slice_index (falls w n) k =
    omega (arith, falls_at v n k k_in, falls_at w n k k_in, same k (omega arith), same (k + 1) (omega arith)) in
    get_or_default (falls v n) k d 0 h ∙ e ∙
    get_or_default (falls w n) k 0 d (omega (
      arith,
      length-map-range_with_len (λ k. v k - v (k + 1)) 0 n,
      length-map-range_with_len (λ k. w k - w (k + 1)) 0 n,
    )))

-- numbers that fall alike from the same end are the same
same_falls : (v w : ℕ → ℕ) (n : ℕ) → v n ≡ w n → ((k : ℕ) → k < n → v k + w (k + 1) ≡ w k + v (k + 1)) → (d k : ℕ) → k + d ≡ n → v k ≡ w k
same_falls v w n last alike zero k e = let at : k ≡ n = omega arith in let a = ap v at in let b = ap w at in omega (arith, a, b, last)
same_falls v w n last alike (suc d) k e = omega (arith, alike k (omega arith), same_falls v w n last alike d (k + 1) (omega arith))

-- no distance exceeds the potential
distance_below : (p : Priced) (d : ℕ → ℕ) → let N = length p.flow.program.rooms in d N ≡ 0 →
    ((n : ℕ) → n < N → d n ≤ (slice_index p.potentials n - slice_index p.potentials (n + 1)) + d (n + 1)) →
    ((n : ℕ) → n < N → slice_index p.potentials (n + 1) ≤ slice_index p.potentials n) → (m v : ℕ) → v + m ≡ N → d v ≤ slice_index p.potentials v
distance_below p d last step down zero v e = let at : v ≡ length p.flow.program.rooms = omega arith in let a = ap d at in omega (arith, a, last)
distance_below p d last step down (suc m) v e =
    omega (arith, step v (omega arith), down v (omega arith), distance_below p d last step down m (v + 1) (omega arith))

-- potentials fall from the first node on
first_is_greatest : (u : ℕ → ℕ) (N : ℕ) → ((n : ℕ) → n < N → u (n + 1) ≤ u n) → (v : ℕ) → v ≤ N → u v ≤ u 0
first_is_greatest u N down zero h = omega arith
first_is_greatest u N down (suc v) h = let e : u (suc v) ≡ u (v + 1) = ap u (omega arith) in
    omega (arith, e, down v (omega arith), first_is_greatest u N down v (omega arith))

pub settled_by_lift : (p q : Priced) (distances by : List ℕ) → IsPriced p → IsSlack p.flow (slice_index p.potentials) → IsBalanced p.flow →
    AreDistancesTo p (length p.flow.program.rooms) distances → q.flow ≡ p.flow →
    AreFalls distances (slice_index p.potentials 0) by (length p.flow.program.rooms + 1) → IsLifted (length p.flow.program.rooms) p.potentials by q.potentials →
    IsSettledFlow q × IsSlack q.flow (slice_index q.potentials)
settled_by_lift p q distances by priced slack balance to same_flow fills lifted =
    let f : Flow = p.flow in
    let N = length f.program.rooms in
    let u : ℕ → ℕ = slice_index p.potentials in
    let w : ℕ → ℕ = slice_index q.potentials in
    let d : ℕ → ℕ = slice_index distances in
    let step : (n : ℕ) → n < N → d n ≤ (u n - u (n + 1)) + d (n + 1) = λ n h. omega (arith, to.grows (spare_more n) h) in
    let below : (v : ℕ) → v ≤ N → d v ≤ u v = λ v h. distance_below p d to.end step priced.potentials.falls (N - v) v (omega arith) in
    let settled : ℕ → ℕ = λ v. u v - d v in
    let down : (n : ℕ) → n < N →
    settled (n + 1) ≤ settled n = λ n h. omega (arith, step n h, priced.potentials.falls n h, below n (omega arith), below (n + 1) (omega arith)) in
    let by_settled : IsSettledBy f u d settled = record {
      shortest = to.grows;
      reached = λ v h. to.reached v (omega arith) (let path = reaches_later f v N h (omega arith) in to.unreached v path.0 (omega arith) path.1);
      lowered = λ v h. omega (arith, below v h);
    } in
    let prices : List ℕ = falls settled N in
    let len : length prices ≡ N = length-map-range_with_len (λ k. settled k - settled (k + 1)) 0 N in
    let end : settled N ≡ 0 = omega (arith, priced.potentials.last) in
    let least : AreLeastPrices f.program prices =
    settled_prices_are_least f u d settled prices priced.limits priced.flow balance slack priced.potentials.last by_settled len
    (falls_sums settled N end down) in
    let within : All (λ x. x ≤ MOST_PRICE) prices =
    least_prices_are_within_rates f.program prices MOST_PRICE priced.limits least (λ j h. (priced.limits.rates j no_stay h).1) in
    let top : (v : ℕ) → v ≤ N → u v ≤ u 0 = first_is_greatest u N priced.potentials.falls in
    let alike : (k : ℕ) → k < N → w k + settled (k + 1) ≡ settled k + w (k + 1) = λ k h.
    omega (
      arith,
      lifted.price k h,
      fills k (omega arith),
      fills (k + 1) (omega arith),
      below k (omega arith),
      below (k + 1) (omega arith),
      top k (omega arith),
      top (k + 1) (omega arith),
      down k h,
      within k 0 (omega (arith, len)),
      falls_at settled N k h,
    ) in
    let same : (v : ℕ) → v ≤ N → w v ≡ settled v = λ v h. same_falls w settled N (omega (arith, lifted.last, end)) alike (N - v) v (omega arith) in
    let settled_slack : IsSlack f settled = settled_is_slack f u d settled priced.limits slack by_settled in
    let kept_slack : IsSlack f w = lift_keeps_slack f settled (λ v. 0) w 0 priced.limits settled_slack (λ s a. omega arith) (λ v h. omega (arith, same v h)) in
    let P : Flow → Type 0 = λ g. IsSlack g w in
    let Q : Flow → Type 0 = λ g. AreLeastPrices g.program (falls w (length g.program.rooms)) in
    let R : List ℕ → Type 0 = λ xs. AreLeastPrices f.program xs in
    (subst Q (sym same_flow) (subst R (sym (falls_same w settled N same)) least), subst P (sym same_flow) kept_slack)
