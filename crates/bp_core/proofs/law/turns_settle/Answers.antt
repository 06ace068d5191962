use Rattle.bp_core.proofs.Vectors.{turns_settle}
use Rattle.bp_core.proofs.law.turns_settle.Goals as goal

pub returns : goal.returns
returns c = turns_settle
