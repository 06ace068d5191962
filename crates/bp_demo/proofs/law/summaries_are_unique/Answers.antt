use Rattle.bp_demo.proofs.Unique.{summaries_are_unique}
use Rattle.bp_demo.proofs.law.summaries_are_unique.Goals as goal

pub returns : goal.returns
returns c = summaries_are_unique c.optimum_is_unique.ensures c.least_prices_are_unique.ensures
