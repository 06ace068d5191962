use Rattle.bp_core.proofs.Growing.{continued_is_prefix}
use Rattle.bp_core.proofs.law.continued_is_prefix.Goals as goal

pub returns : goal.returns
returns c = continued_is_prefix
