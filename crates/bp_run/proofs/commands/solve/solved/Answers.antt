use Rattle.bp_types.specs.Claim.{IsLeastCertificate}
use Rattle.bp_flow.proofs.Settled.{where_settled}
use Rattle.bp_run.proofs.commands.solve.solved.Goals as goal

pub returns : goal.returns
returns g c =
    let solver = c.in_ok-solver.ensures.solver in
    where_settled c.certificate.result IsLeastCertificate _ _ c.certificate.ensures.least solver.settled solver.solves
