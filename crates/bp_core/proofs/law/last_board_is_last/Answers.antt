use Rattle.bp_core.proofs.Vectors.{last_board_is_last}
use Rattle.bp_core.proofs.law.last_board_is_last.Goals as goal

pub returns : goal.returns
returns c = last_board_is_last
