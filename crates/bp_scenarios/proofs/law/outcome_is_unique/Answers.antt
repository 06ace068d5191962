use Rattle.bp_scenarios.proofs.UniqueLemmas.{outcome_is_unique}
use Rattle.bp_scenarios.proofs.law.outcome_is_unique.Goals as goal

pub returns : goal.returns
returns c = outcome_is_unique c.optimum_is_unique.ensures c.least_prices_are_unique.ensures
