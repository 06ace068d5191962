use Rattle.bp_cli.specs.Asked.{asked}
use Rattle.bp_run.proofs.EndLemmas.{stopped_ends, stopped_unfailing, stopped_plain, answer_is_no_fault}
use Rattle.bp_run.proofs.outcome.end_of.Goals as goal

pub returns-in-Ok-clause-end : goal.returns-in-Ok-clause-end
returns-in-Ok-clause-end g c = λ words asks. (asked c.args.task.now, asks, c.in-Ok.ensures.concludes)

pub returns-in-Ok-clause-unfailing : goal.returns-in-Ok-clause-unfailing
returns-in-Ok-clause-unfailing g c = λ steady words asks holds. answer_is_no_fault c.in-Ok.answer

pub returns-in-Err-clause-end : goal.returns-in-Err-clause-end
returns-in-Err-clause-end g c = stopped_ends _ (asked c.args.task.now) c.in-Err.stop c.stopped.result c.in-Err.ensures.concludes c.stopped.ensures

pub returns-in-Err-clause-unfailing : goal.returns-in-Err-clause-unfailing
returns-in-Err-clause-unfailing g c = λ steady words asks holds.
    stopped_unfailing words _ (asked c.args.task.now) asks c.in-Err.stop c.stopped.result c.in-Err.ensures.concludes c.stopped.ensures steady holds

pub returns-in-Err-clause-plain : goal.returns-in-Err-clause-plain
returns-in-Err-clause-plain g c = stopped_plain c.in-Err.stop c.stopped.result c.stopped.ensures
