use Rattle.std.proofs.Common.{◌∙◌}
use Rattle.bp_types.specs.Claim.{IsLeastCertificate}
use Rattle.bp_flow.proofs.Settled.{where_settled}
use Rattle.bp_demo.proofs.summary.least_certificate.Goals as goal

pub returns : goal.returns
returns g c =
    let solver = c.in_ok-solver.ensures.solver in
    where_settled c.certificate.result IsLeastCertificate _ _ c.certificate.ensures.least solver.settled (solver.solves ∙ c.in_ok-instance.ensures)
