use Rattle.bp_show.proofs.InHistories.{vectors_certify}
use Rattle.bp_show.proofs.law.vectors_certify.Goals as goal

pub returns : goal.returns
returns c = vectors_certify c.certificate_is_optimal.ensures
