use Rattle.bp_script.proofs.ScriptLemmas.{sessions_few}
use Rattle.bp_script.proofs.law.sessions_are_few.Goals as goal

pub returns : goal.returns
returns c = sessions_few
