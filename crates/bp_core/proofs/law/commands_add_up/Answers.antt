use Rattle.bp_core.proofs.Adding.{commands_add_up}
use Rattle.bp_core.proofs.law.commands_add_up.Goals as goal

pub returns : goal.returns
returns c = commands_add_up
