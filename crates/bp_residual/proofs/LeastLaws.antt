-- The least prices are within the rates.
use Rattle.std.proofs.Common.{◌≡◌, ℕ, zero, suc, ◌+◌, ◌-◌, ◌<◌, ◌≤◌, min, ◌∙◌, arith, List, map, length, slice_index}
use Rattle.std.specs.List.{range_with_len}
use Rattle.std.proofs.Math.ListN.{length-map, get_or-map}
use Rattle.std.proofs.lemmas.List.{get_or_default}
use Rattle.std.proofs.lemmas.List.FromFn.{length-map-range_with_len, get_or-map-range_with_len}
use Rattle.bp_types.specs.Program.{Program, load}
use Rattle.bp_types.specs.Optimum.{IsFeasible, price_from}
use Rattle.bp_residual.specs.Network.{Flow, IsSlack, IsFlow, IsBalanced}
use Rattle.bp_residual.specs.Laws.{LeastPricesAreWithinRates}
use Rattle.bp_residual.proofs.Lifts.{limit_keeps_slack}
use Rattle.bp_residual.proofs.Slackness.{optimal_prices_are_slack}
use Rattle.bp_types.proofs.Suffixes.{price_from-past, price_from-falls, price_from_sums}
use Rattle.bp_residual.proofs.Least.{slack_prices_are_optimal}

-- a flow that sells an allocation, with what it leaves spare
abbrev flow_of : Program → List ℕ → Flow
flow_of p sell = record { program = p; sell = sell; spare = map (λ n. slice_index p.rooms n - load p sell n) (range_with_len 0 (length p.rooms)) }

flow_of-IsFlow : (p : Program) (sell : List ℕ) → IsFeasible p sell → IsFlow (flow_of p sell)
flow_of-IsFlow p sell h =
    record {
      one_each_stay = h.one_each;
      one_each_night = length-map-range_with_len (λ n. slice_index p.rooms n - load p sell n) 0 (length p.rooms);
      within_forecast = λ j l. let w = h.within_forecast j l in omega arith;
    }

flow_of-IsBalanced : (p : Program) (sell : List ℕ) → IsFeasible p sell → IsBalanced (flow_of p sell)
flow_of-IsBalanced p sell h n l =
    let w = h.within_rooms n l in
    let spare : slice_index (flow_of p sell).spare n ≡ slice_index p.rooms n - load p sell n =
    get_or-map-range_with_len (λ n. slice_index p.rooms n - load p sell n) 0 (length p.rooms) n n 0 l (omega arith) in
    omega (arith, w, spare)

abbrev limited : List ℕ → ℕ → List ℕ
limited prices limit = map (λ x. min x limit) prices

limited_at : (prices : List ℕ) (limit n : ℕ) → n < length prices → slice_index (limited prices limit) n ≡ min (slice_index prices n) limit
limited_at prices limit n h =
    get_or_default (limited prices limit) n 0 (min 0 limit) (omega (arith, length-map prices (λ x. min x limit))) ∙ get_or-map (λ x. min x limit) prices n 0

limited_sums : (prices : List ℕ) (limit d n : ℕ) → n + d ≡ length prices → price_from (limited prices limit) n ≤ price_from prices n
limited_sums prices limit zero n e = omega (arith, price_from-past (limited prices limit) n (omega (arith, length-map prices (λ x. min x limit))))
limited_sums prices limit (suc d) n e =
    omega (
      arith,
      price_from-falls prices n (omega arith),
      price_from-falls (limited prices limit) n (omega (arith, length-map prices (λ x. min x limit))),
      limited_at prices limit n (omega arith),
      limited_sums prices limit d (n + 1) (omega arith),
    )

pub least_prices_are_within_rates : LeastPricesAreWithinRates
least_prices_are_within_rates p prices limit limits least rates k d h =
    let best = least.optimal.optimal in
    let sell = best.reached.0 in
    let feasible = best.reached.1 in
    let f : Flow = flow_of p sell in
    let flow : IsFlow f = flow_of-IsFlow p sell feasible in
    let balance : IsBalanced f = flow_of-IsBalanced p sell feasible in
    let slack : IsSlack f (price_from prices) =
    optimal_prices_are_slack f (price_from prices) prices limits flow balance least.optimal.one_each (price_from_sums prices) best.reached.2 in
    let cut : List ℕ = limited prices limit in
    let one_length : length cut ≡ length prices = length-map prices (λ x. min x limit) in
    let cut_slack : IsSlack f (price_from cut) = limit_keeps_slack f (price_from prices) (price_from cut) limit limits rates slack (λ n l.
    let in_range : n < length prices = omega (arith, least.optimal.one_each) in
    let fall = price_from-falls prices n in_range in
    let e : price_from prices n - price_from prices (n + 1) ≡ slice_index prices n = omega arith in
    rw e (omega (arith, price_from-falls cut n (omega arith), limited_at prices limit n in_range))) in
    let cut_optimal = slack_prices_are_optimal f (price_from cut) cut limits flow balance (one_length ∙
    least.optimal.one_each) (price_from_sums cut) cut_slack in
    let below = least.least cut cut_optimal.0 k in
    let above = limited_sums prices limit (length prices - (k + 1)) (k + 1) (omega arith) in
    let at : slice_index prices k ≤ limit =
    omega (arith, below, above, price_from-falls prices k h, price_from-falls cut k (omega arith), limited_at prices limit k h) in
    let e = get_or_default prices k d 0 h in
    omega (arith, at, e)
