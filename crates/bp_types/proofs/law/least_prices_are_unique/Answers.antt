use Rattle.bp_types.proofs.Unique.{least_prices_are_unique}
use Rattle.bp_types.proofs.law.least_prices_are_unique.Goals as goal

pub returns : goal.returns
returns c = least_prices_are_unique
