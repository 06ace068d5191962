use Rattle.bp_types.proofs.Bands.{gain_is_below_price, price_is_below_loss}
use Rattle.bp_types.proofs.law.prices_lie_in_the_band.Goals as goal

pub returns-clause-gain : goal.returns-clause-gain
returns-clause-gain c = gain_is_below_price c.weak_duality.ensures c.optimum_is_unique.ensures

pub returns-clause-loss : goal.returns-clause-loss
returns-clause-loss c = price_is_below_loss c.weak_duality.ensures c.optimum_is_unique.ensures
