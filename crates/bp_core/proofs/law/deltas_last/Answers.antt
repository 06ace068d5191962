use Rattle.bp_core.proofs.Joining.{deltas_last}
use Rattle.bp_core.proofs.law.deltas_last.Goals as goal

pub returns : goal.returns
returns c = deltas_last
