use Rattle.bp_run.proofs.top.run_plain.Goals as goal

pub returns-in-Ok-clause-serves : goal.returns-in-Ok-clause-serves
returns-in-Ok-clause-serves g c = c.run_task.ensures.serves _ c.in-Ok.ensures

pub returns-in-Err-Usage-clause-serves : goal.returns-in-Err-Usage-clause-serves
returns-in-Err-Usage-clause-serves g c = c.run_no_task.ensures.serves _ (c.in-Err-Usage.ensures c.in-Err-Usage.field-0-is)
