use Rattle.bp_core.proofs.Between.{deltas_lead}
use Rattle.bp_core.proofs.law.deltas_lead.Goals as goal

pub returns : goal.returns
returns c = deltas_lead
