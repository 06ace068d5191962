use Rattle.std.proofs.Common.{ℕ, ◌+◌, ◌*◌, refl, [], length}
use Rattle.std.proofs.lemmas.Result.{err_from_is_err_and}
use Rattle.bp_run.specs.Portfolio.{portfolio_command}
use Rattle.bp_inputs.proofs.StageLemmas.{follows_stage, follows_stop, follows_then_nothing}
use Rattle.bp_run.proofs.PortfolioLemmas.{from_none}
use Rattle.bp_run.proofs.EndLemmas.{brings_stop, brings_answer}
use Rattle.bp_run.proofs.commands.portfolio.answer.Goals as goal

pub returns-in_err-names : goal.returns-in_err-names
returns-in_err-names g c =
    let p = err_from_is_err_and c.from_residual.result c.from_residual.ensures.1 in
    rw (p.1, p.2)
    (brings_stop _ (portfolio_command c.args.list.now c.args.workers) 2 _
    (follows_stop _ _ _ _ _ _ c.in_err-names.ensures.follows))

pub returns-in_err-load_desks : goal.returns-in_err-load_desks
returns-in_err-load_desks g c =
    let p = err_from_is_err_and c.from_residual-in_err-load_desks.result c.from_residual-in_err-load_desks.ensures.1 in
    rw (p.1, p.2)
    (brings_stop _ (portfolio_command c.args.list.now c.args.workers) _ _
    (follows_stage _ _ _ _ _ _ _ _ refl c.in_ok-names.ensures.follows
    (from_none _ _ _ _ _ _ _ _ c.new-hotels.ensures.items c.as_slice.ensures c.in_err-load_desks.ensures.follows)))

pub returns-in_err-all_run : goal.returns-in_err-all_run
returns-in_err-all_run g c =
    let p = err_from_is_err_and c.from_residual-in_err-all_run.result c.from_residual-in_err-all_run.ensures.1 in
    rw (p.1)
    (brings_stop _ (portfolio_command c.args.list.now c.args.workers) _ _
    (follows_stage _ _ _ _ _ _ _ _ refl c.in_ok-names.ensures.follows
    (follows_then_nothing _ _ _ _ _ _ p.2
    (from_none _ _ _ _ _ _ _ _ c.new-hotels.ensures.items c.as_slice.ensures c.in_ok-load_desks.ensures.follows))))

pub returns : goal.returns
returns g c =
    brings_answer _ (portfolio_command c.args.list.now c.args.workers) _ _ _
    (follows_stage _ _ _ _ _ _ _ _ refl c.in_ok-names.ensures.follows
    (from_none _ _ _ _ _ _ _ _ c.new-hotels.ensures.items c.as_slice.ensures c.in_ok-load_desks.ensures.follows))
    c.in_ok-all_run.ensures
