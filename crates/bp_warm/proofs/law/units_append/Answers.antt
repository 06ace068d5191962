use Rattle.bp_warm.proofs.Joins.{units_append}
use Rattle.bp_warm.proofs.law.units_append.Goals as goal

pub returns : goal.returns
returns c = units_append
