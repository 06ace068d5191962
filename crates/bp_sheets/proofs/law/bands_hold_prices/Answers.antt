use Rattle.bp_sheets.proofs.Unique.{bands_hold_prices}
use Rattle.bp_sheets.proofs.law.bands_hold_prices.Goals as goal

pub returns : goal.returns
returns c = bands_hold_prices c.prices_lie_in_the_band.ensures.gain c.prices_lie_in_the_band.ensures.loss
