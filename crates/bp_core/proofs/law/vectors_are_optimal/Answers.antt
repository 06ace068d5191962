use Rattle.bp_core.proofs.Promising.{vectors_are_optimal}
use Rattle.bp_core.proofs.law.vectors_are_optimal.Goals as goal

pub returns : goal.returns
returns c = vectors_are_optimal c.certificate_is_optimal.ensures
