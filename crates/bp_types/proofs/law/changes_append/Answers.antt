use Rattle.bp_types.proofs.Appending.{changes_append, fits_append}
use Rattle.bp_types.proofs.law.changes_append.Goals as goal

pub returns-clause-changes : goal.returns-clause-changes
returns-clause-changes c = changes_append

pub returns-clause-fits : goal.returns-clause-fits
returns-clause-fits c = fits_append
