-- The least prices: along a shortest residual path to the last node, no optimal prices sum to less.
use Rattle.std.proofs.Common.{◌≡◌, ℕ, ◌+◌, ◌≤◌, ap, sym, arith, List, [], ◌∷◌, length, inl, inr, subst}
use Rattle.std.proofs.lemmas.Bool.{cases_lt}
use Rattle.bp_types.specs.Program.{Program, worth, bound}
use Rattle.bp_types.specs.Limits.{IsWithinLimits}
use Rattle.bp_types.specs.Optimum.{IsOptimum, AreSuffixSums, AreOptimalPrices, price_from}
use Rattle.bp_types.proofs.Duality.{weak_duality}
use Rattle.bp_residual.specs.Network.{Flow, Step, tail, head, IsSlack, IsPath, path_cost, path_gain, path_loss, IsFlow, IsBalanced}
use Rattle.bp_residual.specs.Laws.{IsSettledBy, SettledPricesAreLeast}
use Rattle.bp_residual.proofs.Lifts.{ends_in_range}
use Rattle.bp_residual.proofs.Slackness.{slack_flows_are_optimal, optimal_prices_are_slack}
use Rattle.bp_types.proofs.Suffixes.{price_from-past, price_from_sums, suffix_is_price_from}

-- a path's reduced cost, by its ends
pub path_cost_by_ends : (f : Flow) (u : ℕ → ℕ) (a b : ℕ) (path : List Step) → IsSlack f u → IsPath f a b path →
    u b + path_gain f.program path + path_cost f.program u path ≡ u a + path_loss f.program path
path_cost_by_ends f u a b [] slack path = let e = ap u path in omega (arith, e)
path_cost_by_ends f u a b (s ∷ ss) slack path =
    let e = ap u path.0 in
    let here = slack s path.1 in
    let rest = path_cost_by_ends f u (head f.program s) b ss slack path.2 in
    omega (arith, e, here, rest)

pub settled_is_slack : (f : Flow) (u far settled : ℕ → ℕ) → IsWithinLimits f.program → IsSlack f u → IsSettledBy f u far settled → IsSlack f settled
settled_is_slack f u far settled limits slack by s a =
    let ends = ends_in_range f s 1 limits a in
    omega (arith, slack s a, by.shortest s a, by.lowered (tail f.program s) ends.0, by.lowered (head f.program s) ends.1)

pub settled_is_least : (f : Flow) (u far settled other : ℕ → ℕ) → IsSlack f u → u (length f.program.rooms) ≡ 0 → IsSettledBy f u far settled →
    IsSlack f other → (v : ℕ) → v ≤ length f.program.rooms → settled v ≤ other v
settled_is_least f u far settled other slack last by others v h =
    let path = (by.reached v h).0 in
    let is_path = (by.reached v h).1 in
    let cost = (by.reached v h).2 in
    omega (
      arith,
      last,
      cost,
      by.lowered v h,
      path_cost_by_ends f u v (length f.program.rooms) path slack is_path,
      path_cost_by_ends f other v (length f.program.rooms) path others is_path,
    )

-- prices under which no reduced cost of a balanced flow is negative
pub slack_prices_are_optimal : (f : Flow) (u : ℕ → ℕ) (prices : List ℕ) → IsWithinLimits f.program → IsFlow f → IsBalanced f →
    length prices ≡ length f.program.rooms → AreSuffixSums u prices → IsSlack f u →
    AreOptimalPrices f.program prices × (worth f.program f.sell ≡ bound f.program prices)
slack_prices_are_optimal f u prices limits flow balance one_each sums slack =
    let facts = slack_flows_are_optimal f u prices limits flow balance one_each sums slack in (
      record {
        one_each = one_each;
        optimal = record { reached = (f.sell, facts.0, facts.1); greatest = λ scale sell h. weak_duality f.program scale sell prices h one_each };
      },
      facts.1,
    )

-- under any optimal prices no reduced cost of a flow of the same value is negative
others_are_slack : (f : Flow) (prices others : List ℕ) → IsWithinLimits f.program → IsFlow f → IsBalanced f → IsOptimum f.program (worth f.program f.sell) →
    AreOptimalPrices f.program others → IsSlack f (price_from others)
others_are_slack f prices others limits flow balance optimum optimal =
    optimal_prices_are_slack f (price_from others) others limits flow balance optimal.one_each (price_from_sums others)
    (one_optimum f.program _ _ optimum optimal.optimal)
  where
    one_optimum : (p : Program) (v w : ℕ) → IsOptimum p v → IsOptimum p w → v ≡ w
    one_optimum p v w first second =
        let a = second.greatest 1 first.reached.0 first.reached.1 in
        let b = first.greatest 1 second.reached.0 second.reached.1 in
        omega (arith, a, b, first.reached.2, second.reached.2)

pub settled_prices_are_least : SettledPricesAreLeast
settled_prices_are_least f u far settled prices limits flow balance slack last by one_each sums =
    let now = settled_is_slack f u far settled limits slack by in
    let facts = slack_prices_are_optimal f settled prices limits flow balance one_each sums now in
    let optimum : IsOptimum f.program (worth f.program f.sell) = let P : ℕ → Type 0 = λ v. IsOptimum f.program v in subst P (sym facts.1) facts.0.optimal in
    record {
      optimal = facts.0;
      least = λ others optimal n. elim (cases_lt (length prices) n) [
        | inl past ↦ omega (arith, price_from-past prices n (omega arith))
        | inr within ↦
            let other = settled_is_least f u far settled (price_from others) slack last by
            (others_are_slack f prices others limits flow balance optimum optimal) n (omega arith) in
            omega (arith, other, suffix_is_price_from settled prices n sums within)
      ];
    }
