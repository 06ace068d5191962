use Rattle.bp_types.proofs.Fewer.{certificates_tell_displacement}
use Rattle.bp_types.proofs.law.certificates_tell_displacement.Goals as goal

pub returns : goal.returns
returns c = certificates_tell_displacement
