use Rattle.std.proofs.Common.{refl}
use Rattle.std.proofs.lemmas.Result.{err_from_is_err_and}
use Rattle.bp_inputs.specs.HotelPlan.{named}
use Rattle.bp_run.specs.Desk.{desk_command, desk_plan}
use Rattle.bp_inputs.specs.Fetches.{over}
use Rattle.bp_inputs.proofs.StageLemmas.{follows_then_nothing}
use Rattle.bp_run.proofs.EndLemmas.{brings_stop, brings_answer}
use Rattle.bp_run.proofs.commands.desk.answer.Goals as goal

pub returns-in_err-staged : goal.returns-in_err-staged
returns-in_err-staged g c =
    let p = err_from_is_err_and c.from_residual.result c.from_residual.ensures.1 in
    rw (p.1, p.2)
    (brings_stop _ (desk_command (named c.args.hotel.now) c.args.script.now c.args.workers) 6 _ c.in_err-staged.ensures)

pub returns-in_err-run : goal.returns-in_err-run
returns-in_err-run g c =
    let p = err_from_is_err_and c.from_residual-in_err-run.result c.from_residual-in_err-run.ensures.1 in
    rw (p.1)
    (brings_stop _ (desk_command (named c.args.hotel.now) c.args.script.now c.args.workers) 6 _
    (follows_then_nothing _ _ _ _ _ _ p.2 c.in_ok-staged.ensures))

pub returns : goal.returns
returns g c =
    brings_answer _ (desk_command (named c.args.hotel.now) c.args.script.now c.args.workers) 6 _ _ c.in_ok-staged.ensures c.in_ok-run.ensures
