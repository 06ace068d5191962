use Rattle.bp_core.proofs.Vectors.{vector_between}
use Rattle.bp_core.proofs.law.vector_between.Goals as goal

pub returns : goal.returns
returns c = vector_between
