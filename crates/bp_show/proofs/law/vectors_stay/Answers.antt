use Rattle.bp_show.proofs.InHistories.{vectors_stay}
use Rattle.bp_show.proofs.law.vectors_stay.Goals as goal

pub returns : goal.returns
returns c = vectors_stay
