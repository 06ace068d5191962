use Rattle.bp_core.proofs.Saying.{answers_say}
use Rattle.bp_core.proofs.law.answers_say.Goals as goal

pub returns : goal.returns
returns c = answers_say
