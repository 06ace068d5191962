use Rattle.bp_script.proofs.ScriptLemmas.{commands_fit}
use Rattle.bp_script.proofs.law.commands_are_in_range.Goals as goal

pub returns : goal.returns
returns c = commands_fit
