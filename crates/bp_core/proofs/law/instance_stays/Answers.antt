use Rattle.bp_core.proofs.Growing.{instance_stays}
use Rattle.bp_core.proofs.law.instance_stays.Goals as goal

pub returns : goal.returns
returns c = instance_stays
