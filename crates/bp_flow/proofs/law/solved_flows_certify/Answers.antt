use Rattle.bp_flow.proofs.Certified.{solved_flows_certify}
use Rattle.bp_flow.proofs.law.solved_flows_certify.Goals as goal

pub returns : goal.returns
returns c = solved_flows_certify
