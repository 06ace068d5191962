use Rattle.bp_optimise.proofs.Following.{new_goes}
use Rattle.bp_optimise.proofs.law.new_goes.Goals as goal

pub returns : goal.returns
returns c = new_goes
