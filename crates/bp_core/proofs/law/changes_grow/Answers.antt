use Rattle.bp_core.proofs.Growing.{changes_grow}
use Rattle.bp_core.proofs.law.changes_grow.Goals as goal

pub returns : goal.returns
returns c = changes_grow
