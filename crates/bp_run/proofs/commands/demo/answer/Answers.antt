use Rattle.std.proofs.Common.{refl}
use Rattle.std.proofs.lemmas.Result.{err_from_is_err_and}
use Rattle.bp_run.specs.Demo.{demo_command}
use Rattle.bp_inputs.proofs.StageLemmas.{follows_nothing, leaves_same}
use Rattle.bp_run.proofs.EndLemmas.{brings_stop}
use Rattle.bp_run.proofs.commands.demo.answer.Goals as goal

pub returns-in_err-demo : goal.returns-in_err-demo
returns-in_err-demo g c =
    let p = err_from_is_err_and c.from_residual.result c.from_residual.ensures.1 in
    rw (p.1)
    (brings_stop _ (demo_command c.args.seed c.args.nights c.args.rooms c.args.stays) 1 _
    (follows_nothing _ _ _ _ _ p.2 (leaves_same _)))

pub returns : goal.returns
returns g c = record { given = tt; next = 1; gives = (refl, refl); right = c.in_ok-demo.ensures }
