use Rattle.bp_core.proofs.Growing.{number_never_falls}
use Rattle.bp_core.proofs.law.number_never_falls.Goals as goal

pub returns : goal.returns
returns c = number_never_falls
