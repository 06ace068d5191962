use Rattle.bp_core.proofs.Growing.{answered_continues}
use Rattle.bp_core.proofs.law.answered_continues.Goals as goal

pub returns : goal.returns
returns c = answered_continues
