use Rattle.std.proofs.Common.{arith}
use Rattle.bp_run.specs.declared.end.End.TheVariants.{NotPlain}
use Rattle.bp_run.proofs.EndLemmas.{serves, plain_known}
use Rattle.bp_run.proofs.top.run_no_task.Goals as goal

pub returns-clause-serves : goal.returns-clause-serves
returns-clause-serves g c = λ words none.
    serves words _ _ NotPlain none (λ steady holds same. cc) (λ steady all. absurd (none all.plain)) c.finish.result _ c.number.ensures c.finish.ensures

pub returns-clause-known : goal.returns-clause-known
returns-clause-known g c = let number = c.number.ensures in let small = plain_known _ NotPlain c.finish.result tt c.finish.ensures in omega arith
