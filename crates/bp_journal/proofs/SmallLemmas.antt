-- Sums, certificates and displacements of an instance within the limits are small.
use Rattle.std.proofs.Common.{ℕ, zero, suc, ◌*◌, ◌<◌, ◌≤◌, arith, Bool, true, false, cond, List, length, slice_index, All}
use Rattle.std.proofs.Math.Nat.{mul-le-mul}
use Rattle.std.proofs.lemmas.List.{get_or_default}
use Rattle.bp_types.specs.declared.stay.Span.{Span}
use Rattle.bp_types.specs.declared.limits.TheConstants.{MOST_PRICE, MOST_VALUE}
use Rattle.bp_types.specs.Sums.{sum_below}
use Rattle.bp_types.specs.Program.{Program, no_stay, stay_at, covers, worth, price}
use Rattle.bp_types.specs.Limits.{IsWithinLimits}
use Rattle.bp_types.specs.Optimum.{IsFeasible}
use Rattle.bp_types.specs.Claim.{Claim, IsCertificateOf}
use Rattle.bp_types.specs.Displacement.{IsDisplacement}
use Rattle.bp_cert.specs.Texts.{IsSpeakable}

prices_sum : (f : ℕ → ℕ) (n : ℕ) → ((k : ℕ) → k < n → f k ≤ 1000000000) → sum_below f n ≤ 1000000000 * n
prices_sum f zero each = omega arith
prices_sum f (suc n) each = omega (arith, prices_sum f n (λ k h. each k (omega arith)), each n (omega arith))

revenues_sum : (f : ℕ → ℕ) (n : ℕ) → ((k : ℕ) → k < n → f k ≤ 1000000000000000) → sum_below f n ≤ 1000000000000000 * n
revenues_sum f zero each = omega arith
revenues_sum f (suc n) each = omega (arith, revenues_sum f n (λ k h. each k (omega arith)), each n (omega arith))

if_small : (b : Bool) (n most : ℕ) → n ≤ most → cond b n 0 ≤ most
if_small true n most small = small
if_small false n most small = omega arith

-- the price of a span
pub price_is_small : (prices : List ℕ) (span : Span) → All (λ x. x ≤ MOST_PRICE) prices → price prices span ≤ 1000000000 * length prices
price_is_small prices span small =
    prices_sum (λ n. cond (covers span n) (slice_index prices n) 0) (length prices)
    (λ n h. if_small (covers span n) (slice_index prices n) 1000000000 (small n 0 h))

sold_is_small : (p : Program) (sell : List ℕ) → IsWithinLimits p → IsFeasible p sell → (j : ℕ) → j < length p.stays → slice_index sell j ≤ 1000000
sold_is_small p sell limits feasible j h = omega (arith, feasible.within_forecast j h, limits.forecasts j no_stay h)

-- what an allocation is worth
pub worth_is_small : (p : Program) (sell : List ℕ) → IsWithinLimits p → IsFeasible p sell → worth p sell ≤ 4000000000000000000
worth_is_small p sell limits feasible =
    let each : (j : ℕ) → j < length p.stays → (stay_at p j).rate * slice_index sell j ≤ 1000000000000000 =
    λ j h. let rate : (stay_at p j).rate ≤ 1000000000 = (limits.rates j no_stay h).1 in
    omega (arith, mul-le-mul rate (sold_is_small p sell limits feasible j h)) in
    omega (arith, revenues_sum (λ j. (stay_at p j).rate * slice_index sell j) (length p.stays) each, limits.stays)

-- a displacement
pub displacement_is_small : (p : Program) (span : Span) (units cost : ℕ) → IsWithinLimits p → IsDisplacement p span units cost → cost ≤ MOST_VALUE
displacement_is_small p span units cost limits is =
    let best = is.optimum.reached in
    omega (arith, worth_is_small p best.0 limits best.1, best.2, is.difference)

-- a certificate
pub certificate_is_small : (p : Program) (c : Claim) → IsWithinLimits p → IsCertificateOf p c → IsSpeakable c
certificate_is_small p c limits is = record {
  value = omega (arith, worth_is_small p c.sell limits is.feasible, is.worth_is);
  stays = omega (arith, is.feasible.one_each, limits.stays);
  nights = omega (arith, is.one_each, limits.nights);
  sell = λ j d h.
      let small = sold_is_small p c.sell limits is.feasible j (omega (arith, is.feasible.one_each)) in
      omega (arith, small, get_or_default c.sell j d 0 h);
  prices = λ n d h. let small = is.within_limit n d h in omega (arith, small);
}
