use Rattle.bp_cli.specs.Asked.{asked}
use Rattle.bp_run.proofs.EndLemmas.{ran_all_stopped, stopped_has, stopped_unfailing}
use Rattle.bp_run.proofs.outcome.end_of_portfolio.Goals as goal

pub returns-in-Err-clause-end : goal.returns-in-Err-clause-end
returns-in-Err-clause-end g c =
    let task = asked c.args.task.now in
    stopped_has _ _ task c.requires.asks c.in-Err.stop c.stopped.result
    (ran_all_stopped _ _ task c.in-Some.line c.requires.asks c.in-Some.ensures c.in-Err.stop c.in-Err.ensures)
    c.stopped.ensures

pub returns-in-Err-clause-unfailing : goal.returns-in-Err-clause-unfailing
returns-in-Err-clause-unfailing g c =
    let task = asked c.args.task.now in
    stopped_unfailing _ _ task c.requires.asks c.in-Err.stop c.stopped.result
    (ran_all_stopped _ _ task c.in-Some.line c.requires.asks c.in-Some.ensures c.in-Err.stop c.in-Err.ensures)
    c.stopped.ensures
