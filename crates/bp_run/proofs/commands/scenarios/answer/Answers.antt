use Rattle.std.proofs.Common.{refl}
use Rattle.std.proofs.lemmas.Result.{err_from_is_err_and}
use Rattle.bp_run.specs.Scenarios.{scenarios_command}
use Rattle.bp_inputs.proofs.StageLemmas.{follows_stage, follows_stop, follows_made, follows_nothing, leaves_same}
use Rattle.bp_run.proofs.EndLemmas.{brings_stop, brings_answer}
use Rattle.bp_run.proofs.commands.scenarios.answer.Goals as goal

pub returns-in_err-lists : goal.returns-in_err-lists
returns-in_err-lists g c =
    let p = err_from_is_err_and c.from_residual-in_err-lists.result c.from_residual-in_err-lists.ensures.1 in
    rw (p.1, p.2)
    (brings_stop _ (scenarios_command c.args.problem.now c.args.changes.now) 3 _
    (follows_stage _ _ _ _ _ _ _ _ refl c.in_ok-base.ensures.follows
    (follows_stop _ _ _ _ _ _ c.in_err-lists.ensures.follows)))

pub returns-in_err-foreseen : goal.returns-in_err-foreseen
returns-in_err-foreseen g c =
    let p = err_from_is_err_and c.from_residual-in_err-foreseen.result c.from_residual-in_err-foreseen.ensures.1 in
    rw (p.1)
    (brings_stop _ (scenarios_command c.args.problem.now c.args.changes.now) 3 _
    (follows_stage _ _ _ _ _ _ _ _ refl c.in_ok-base.ensures.follows
    (follows_stage _ _ _ _ _ _ _ _ refl c.in_ok-lists.ensures.follows
    (follows_nothing _ _ _ _ _ p.2 (leaves_same _)))))

pub returns : goal.returns
returns g c =
    brings_answer _ (scenarios_command c.args.problem.now c.args.changes.now) 3 _ _
    (follows_stage _ _ _ _ _ _ _ _ refl c.in_ok-base.ensures.follows
    (follows_stage _ _ _ _ _ _ _ _ refl c.in_ok-lists.ensures.follows
    (follows_made _ _ _ _ _ refl refl (leaves_same _))))
    c.in_ok-foreseen.ensures
