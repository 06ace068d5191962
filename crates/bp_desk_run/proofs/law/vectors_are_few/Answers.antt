use Rattle.bp_desk_run.proofs.Room.{vectors_are_few}
use Rattle.bp_desk_run.proofs.law.vectors_are_few.Goals as goal

pub returns : goal.returns
returns c = vectors_are_few
