use Rattle.bp_core.proofs.Promising.{least_is_kept}
use Rattle.bp_core.proofs.law.least_is_kept.Goals as goal

pub returns : goal.returns
returns c = least_is_kept
