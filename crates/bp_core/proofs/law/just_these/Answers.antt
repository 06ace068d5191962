use Rattle.bp_core.proofs.Quietly.{just_these}
use Rattle.bp_core.proofs.law.just_these.Goals as goal

pub returns : goal.returns
returns c = just_these
