use Rattle.bp_core.proofs.Promising.{accepted_exactly}
use Rattle.bp_core.proofs.law.accepted_exactly.Goals as goal

pub returns : goal.returns
returns c = accepted_exactly
