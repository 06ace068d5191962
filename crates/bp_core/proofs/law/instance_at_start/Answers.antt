use Rattle.bp_core.proofs.Growing.{instance_before_lines}
use Rattle.bp_core.proofs.law.instance_at_start.Goals as goal

pub returns : goal.returns
returns c = instance_before_lines
