use Rattle.std.proofs.Common.{refl}
use Rattle.std.proofs.lemmas.Result.{err_from_is_err_and}
use Rattle.bp_run.specs.Judge.{ruling_command, judge_plan}
use Rattle.bp_inputs.proofs.StageLemmas.{follows_stage, follows_stop, follows_made, follows_nothing, leaves_same}
use Rattle.bp_run.proofs.EndLemmas.{brings_stop, brings_answer}
use Rattle.bp_run.proofs.commands.judge.answer.Goals as goal

pub returns-in_err-journal : goal.returns-in_err-journal
returns-in_err-journal g c =
    let p = err_from_is_err_and c.from_residual-in_err-journal.result c.from_residual-in_err-journal.ensures.1 in
    rw (p.1, p.2)
    (brings_stop _ (ruling_command (judge_plan c.args.problem.now c.args.journal.now)) 3 _
    (follows_stage _ _ _ _ _ _ _ _ refl c.in_ok-problem.ensures.follows
    (follows_stop _ _ _ _ _ _ c.in_err-journal.ensures.follows)))

pub returns-in_err-house : goal.returns-in_err-house
returns-in_err-house g c =
    let p = err_from_is_err_and c.from_residual-in_err-house.result c.from_residual-in_err-house.ensures.1 in
    rw (p.1)
    (brings_stop _ (ruling_command (judge_plan c.args.problem.now c.args.journal.now)) 3 _
    (follows_stage _ _ _ _ _ _ _ _ refl c.in_ok-problem.ensures.follows
    (follows_stage _ _ _ _ _ _ _ _ refl c.in_ok-journal.ensures.follows
    (follows_nothing _ _ _ _ _ p.2 (leaves_same _)))))

pub returns-in_err-ruled : goal.returns-in_err-ruled
returns-in_err-ruled g c =
    let p = err_from_is_err_and c.from_residual-in_err-ruled.result c.from_residual-in_err-ruled.ensures.1 in
    rw (p.1)
    (brings_stop _ (ruling_command (judge_plan c.args.problem.now c.args.journal.now)) 3 _
    (follows_stage _ _ _ _ _ _ _ _ refl c.in_ok-problem.ensures.follows
    (follows_stage _ _ _ _ _ _ _ _ refl c.in_ok-journal.ensures.follows
    (follows_nothing _ _ _ _ _ p.2 (leaves_same _)))))

pub returns : goal.returns
returns g c =
    brings_answer _ (ruling_command (judge_plan c.args.problem.now c.args.journal.now)) 3 _ _
    (follows_stage _ _ _ _ _ _ _ _ refl c.in_ok-problem.ensures.follows
    (follows_stage _ _ _ _ _ _ _ _ refl c.in_ok-journal.ensures.follows
    (follows_made _ _ _ _ _ refl refl (leaves_same _))))
    (rw (← c.in_ok-house.ensures) c.in_ok-ruled.ensures)
