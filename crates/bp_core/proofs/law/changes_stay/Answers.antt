use Rattle.bp_core.proofs.Growing.{changes_stay}
use Rattle.bp_core.proofs.law.changes_stay.Goals as goal

pub returns : goal.returns
returns c = changes_stay
