use Rattle.bp_core.proofs.Quietly.{nothing_more}
use Rattle.bp_core.proofs.law.nothing_more.Goals as goal

pub returns : goal.returns
returns c = nothing_more
