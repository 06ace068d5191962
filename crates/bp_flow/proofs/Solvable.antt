-- A solved flow: its program has an optimum, and exactly one list of least prices, within the rates.
use Rattle.std.proofs.Common.{◌≡◌, ℕ, zero, suc, ◌+◌, ◌-◌, ◌<◌, ◌≤◌, ap, arith, List, length, slice_index, inl, inr}
use Rattle.std.specs.List.{All}
use Rattle.std.proofs.lemmas.Bool.{cases_eq}
use Rattle.std.proofs.lemmas.List.FromFn.{length-map-range_with_len}
use Rattle.bp_types.specs.Program.{Program, stay_at, bound}
use Rattle.bp_types.specs.Limits.{IsWithinLimits}
use Rattle.bp_types.specs.Optimum.{AreLeastPrices}
use Rattle.bp_types.proofs.Unique.{least_prices_are_unique}
use Rattle.bp_residual.specs.Network.{Priced, Flow, spare_more, greatest_below, greatest_rate}
use Rattle.bp_residual.proofs.Least.{settled_prices_are_least}
use Rattle.bp_residual.proofs.LeastLaws.{least_prices_are_within_rates}
use Rattle.bp_residual.proofs.Shortest.{distances_exist}
use Rattle.bp_flow.specs.Laws.{SolvedProgramsAreSolvable}
use Rattle.bp_flow.specs.Solvers.{IsSolvedFlow}
use Rattle.bp_flow.proofs.SettleStep.{falls, falls_sums}

below_greatest : (f : ℕ → ℕ) (n j : ℕ) → j < n → f j ≤ greatest_below f n
below_greatest f zero j h = absurd (omega arith)
below_greatest f (suc n) j h =
    elim (cases_eq j n) [
      | inl e ↦ let at = ap f e in omega (arith, at)
      | inr ne ↦ omega (arith, below_greatest f n j (omega arith))
    ]

pub within_rates : (p : Program) (prices : List ℕ) → IsWithinLimits p → AreLeastPrices p prices → All (λ x. x ≤ greatest_rate p) prices
within_rates p prices limits least =
    least_prices_are_within_rates p prices (greatest_rate p) limits least (λ j h. below_greatest (λ i. (stay_at p i).rate) (length p.stays) j h)

-- the prices of the potentials, less the distances to the last node
least_prices : (p : Priced) → IsSolvedFlow p → (prices : List ℕ) × AreLeastPrices p.flow.program prices
least_prices p solved =
    let f : Flow = p.flow in
    let N = length f.program.rooms in
    let u : ℕ → ℕ = slice_index p.potentials in
    let last = solved.priced.potentials.last in
    let down = solved.priced.potentials.falls in
    let found = distances_exist f u solved.priced.limits last down in
    let settled : ℕ → ℕ = λ v. u v - found.0 v in
    let sums = falls_sums settled N (omega (arith, last)) (λ n h. omega (
      arith,
      found.1.shortest (spare_more n) h,
      found.1.lowered n (omega (arith, h)),
      found.1.lowered (n + 1) (omega (arith, h)),
      down n h,
    )) in
    let each : length (falls settled N) ≡ N = length-map-range_with_len (λ k. settled k - settled (k + 1)) 0 N in (
      falls settled N,
      settled_prices_are_least f u found.0 settled (falls settled N)
          solved.priced.limits solved.priced.flow solved.balanced solved.slack last found.1 each sums,
    )

-- no prices of a solved flow have to be the least ones for that: its program has some
pub solved_programs_are_solvable : SolvedProgramsAreSolvable
solved_programs_are_solvable p solved =
    let least = least_prices p solved in
    record {
      value = bound p.flow.program least.0;
      optimum = least.1.optimal.optimal;
      prices = least.0;
      least = least.1;
      only = λ others also. least_prices_are_unique p.flow.program others least.0 also least.1;
      within_rates = within_rates p.flow.program least.0 solved.priced.limits least.1;
    }
