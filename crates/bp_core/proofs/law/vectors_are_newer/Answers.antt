use Rattle.bp_core.proofs.Promising.{vectors_are_newer}
use Rattle.bp_core.proofs.law.vectors_are_newer.Goals as goal

pub returns : goal.returns
returns c = vectors_are_newer
