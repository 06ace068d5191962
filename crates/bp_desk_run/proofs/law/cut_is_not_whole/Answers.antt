use Rattle.bp_desk_run.proofs.Cutting.{cut_is_not_whole}
use Rattle.bp_desk_run.proofs.law.cut_is_not_whole.Goals as goal

pub returns : goal.returns
returns c = cut_is_not_whole
