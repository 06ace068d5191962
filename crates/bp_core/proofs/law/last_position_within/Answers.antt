use Rattle.bp_core.proofs.Vectors.{last_position_within}
use Rattle.bp_core.proofs.law.last_position_within.Goals as goal

pub returns : goal.returns
returns c = last_position_within
