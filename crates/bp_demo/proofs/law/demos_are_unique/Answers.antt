use Rattle.bp_demo.proofs.Unique.{demos_are_unique}
use Rattle.bp_demo.proofs.law.demos_are_unique.Goals as goal

pub returns : goal.returns
returns c = demos_are_unique c.optimum_is_unique.ensures c.least_prices_are_unique.ensures
