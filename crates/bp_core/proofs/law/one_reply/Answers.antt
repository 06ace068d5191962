use Rattle.bp_core.proofs.Saying.{one_reply}
use Rattle.bp_core.proofs.law.one_reply.Goals as goal

pub returns : goal.returns
returns c = one_reply c.displacement_is_unique.ensures
