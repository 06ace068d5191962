use Rattle.std.proofs.Common.{refl, subst}
use Rattle.bp_types.specs.Optimum.{IsOptimum}
use Rattle.bp_residual.specs.Network.{Priced, prices_of}
use Rattle.bp_flow.specs.Solving.{Solving}
use Rattle.bp_flow.proofs.Certified.{certified}
use Rattle.bp_flow.proofs.solver.Solver.value.Goals as goal

pub returns : goal.returns
returns c =
    let p : Priced = c.self.inside.flow in
    let P : Solving → Type 0 = λ q. IsOptimum q.flow.program c.worth.result in
    subst P c.self.view_is (c.certificate_is_optimal.ensures p.flow.program c.worth.result p.flow.sell (prices_of p)
    (certified p c.worth.result p.flow.sell (prices_of p) c.self.invariant.0 c.worth.ensures refl refl))
