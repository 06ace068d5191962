use Rattle.bp_core.proofs.Saying.{last_line_is_legal}
use Rattle.bp_core.proofs.law.last_line_is_legal.Goals as goal

pub returns : goal.returns
returns c = last_line_is_legal
