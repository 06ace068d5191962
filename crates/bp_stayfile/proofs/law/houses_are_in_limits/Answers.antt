use Rattle.bp_stayfile.proofs.FitLemmas.{house_fits}
use Rattle.bp_stayfile.proofs.law.houses_are_in_limits.Goals as goal

pub returns : goal.returns
returns c = house_fits
