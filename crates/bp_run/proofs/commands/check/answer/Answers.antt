use Rattle.std.proofs.Common.{refl}
use Rattle.std.proofs.lemmas.Result.{err_from_is_err_and}
use Rattle.bp_run.specs.Check.{check_command}
use Rattle.bp_inputs.proofs.StageLemmas.{follows_stage, follows_stop, follows_made, leaves_same}
use Rattle.bp_run.proofs.EndLemmas.{brings_stop, brings_answer}
use Rattle.bp_run.proofs.commands.check.answer.Goals as goal

pub returns-in_err-certificate : goal.returns-in_err-certificate
returns-in_err-certificate g c =
    let p = err_from_is_err_and c.from_residual-in_err-certificate.result c.from_residual-in_err-certificate.ensures.1 in
    rw (p.1, p.2)
    (brings_stop _ (check_command c.args.problem.now c.args.certificate.now) 3 _
    (follows_stage _ _ _ _ _ _ _ _ refl c.in_ok-problem.ensures.follows
    (follows_stop _ _ _ _ _ _ c.in_err-certificate.ensures.follows)))

pub returns : goal.returns
returns g c =
    brings_answer _ (check_command c.args.problem.now c.args.certificate.now) 3 _ _
    (follows_stage _ _ _ _ _ _ _ _ refl c.in_ok-problem.ensures.follows
    (follows_stage _ _ _ _ _ _ _ _ refl c.in_ok-certificate.ensures.follows
    (follows_made _ _ _ _ _ refl refl (leaves_same _))))
    (record { first = c.check.ensures.first; optimum = c.check.ensures.optimum })
