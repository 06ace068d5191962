use Rattle.bp_core.proofs.Leaving.{leave_is_last}
use Rattle.bp_core.proofs.law.leave_is_last.Goals as goal

pub returns : goal.returns
returns c = leave_is_last
