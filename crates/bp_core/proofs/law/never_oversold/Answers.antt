use Rattle.bp_core.proofs.Sound.{never_oversold}
use Rattle.bp_core.proofs.law.never_oversold.Goals as goal

pub returns : goal.returns
returns c = never_oversold
