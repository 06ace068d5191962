use Rattle.bp_optimise.proofs.Superseding.{superseded_is_followed}
use Rattle.bp_optimise.proofs.law.superseded_is_followed.Goals as goal

pub returns : goal.returns
returns c = superseded_is_followed
