use Rattle.bp_core.proofs.Growing.{right_stays_right}
use Rattle.bp_core.proofs.law.right_stays_right.Goals as goal

pub returns : goal.returns
returns c = right_stays_right
