use Rattle.bp_script.proofs.ScriptLemmas.{commands_few}
use Rattle.bp_script.proofs.law.commands_are_few.Goals as goal

pub returns : goal.returns
returns c = commands_few
