use Rattle.bp_core.proofs.Joining.{deltas_append}
use Rattle.bp_core.proofs.law.deltas_append.Goals as goal

pub returns : goal.returns
returns c = deltas_append
