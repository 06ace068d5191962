use Rattle.std.proofs.Common.{◌≡◌, ℕ, ◌≤◌, List, ap, ◌∙◌, sym, subst}
use Rattle.std.specs.List.{All}
use Rattle.bp_types.specs.Claim.{Claim, IsCertificateOf}
use Rattle.bp_types.specs.Optimum.{AreLeastPrices}
use Rattle.bp_residual.specs.Network.{prices_of, greatest_rate}
use Rattle.bp_flow.specs.Solving.{Solving, priced}
use Rattle.bp_flow.specs.Solvers.{IsSolved}
use Rattle.bp_flow.proofs.Certified.{certified}
use Rattle.bp_flow.proofs.Solvable.{within_rates}
use Rattle.bp_flow.proofs.solver.Solver.certificate.Goals as goal

pub returns-clause-certifies : goal.returns-clause-certifies
returns-clause-certifies c =
    let k : Claim = c.in_ok-certificate.certificate in
    let P : Solving → Type 0 = λ s. IsCertificateOf s.flow.program k in
    subst P c.self.view_is (certified c.self.inside.flow k.value k.sell k.prices c.self.invariant.0 c.in_ok-certificate.ensures.0
    c.in_ok-certificate.ensures.1 c.in_ok-certificate.ensures.2)

pub returns-clause-least : goal.returns-clause-least
returns-clause-least c settled =
    let s : Solving = c.args.self.now in
    let k : Claim = c.in_ok-certificate.certificate in
    let P : Solving → Type 0 = λ t. IsCertificateOf t.flow.program k in
    let L : List ℕ → Type 0 = λ xs. AreLeastPrices s.flow.program xs in
    let certifies : IsCertificateOf s.flow.program k =
    subst P c.self.view_is (certified c.self.inside.flow k.value k.sell k.prices c.self.invariant.0 c.in_ok-certificate.ensures.0
    c.in_ok-certificate.ensures.1 c.in_ok-certificate.ensures.2) in
    let prices_are : k.prices ≡ prices_of (priced s) = c.in_ok-certificate.ensures.2 ∙ ap (λ (t : Solving). prices_of (priced t)) c.self.view_is in
    record {
      certifies = certifies;
      least = subst L (sym prices_are) settled;
      optimum = c.certificate_is_optimal.ensures s.flow.program k.value k.sell k.prices certifies;
    }

pub returns-clause-within_rates : goal.returns-clause-within_rates
returns-clause-within_rates c settled =
    let s : Solving = c.args.self.now in
    let S : Solving → Type 0 = λ t. IsSolved t in
    let solved : IsSolved s = subst S c.self.view_is c.self.invariant.0 in
    let prices_are : c.in_ok-certificate.certificate.prices ≡ prices_of (priced s) = c.in_ok-certificate.ensures.2 ∙
    ap (λ (t : Solving). prices_of (priced t)) c.self.view_is in
    let P : List ℕ → Type 0 = λ xs. All (λ x. x ≤ greatest_rate s.flow.program) xs in
    subst P (sym prices_are) (within_rates s.flow.program (prices_of (priced s)) solved.priced.limits settled)
