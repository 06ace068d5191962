use Rattle.bp_core.proofs.Growing.{may_log_by_own}
use Rattle.bp_core.proofs.law.may_log_by_own.Goals as goal

pub returns : goal.returns
returns c = may_log_by_own
