use Rattle.bp_residual.proofs.Augment.{push_moves_the_end}
use Rattle.bp_residual.proofs.law.push_moves_the_end.Goals as goal

pub returns : goal.returns
returns c = push_moves_the_end
