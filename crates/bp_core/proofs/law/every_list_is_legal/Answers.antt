use Rattle.bp_core.proofs.EveryList.{every_list_is_legal}
use Rattle.bp_core.proofs.law.every_list_is_legal.Goals as goal

pub returns : goal.returns
returns c = every_list_is_legal
