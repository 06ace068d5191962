use Rattle.std.proofs.Common.{◌+◌, refl, arith}
use Rattle.std.proofs.lemmas.Result.{err_from_is_err_and}
use Rattle.bp_inputs.specs.HotelPlan.{named}
use Rattle.bp_run.proofs.PortfolioLemmas.{hotel_stops, hotel_then}
use Rattle.bp_run.proofs.commands.portfolio.+load_desks.Goals as goal

pub returns-in_err-staged-clause-follows : goal.returns-in_err-staged-clause-follows
returns-in_err-staged-clause-follows g t c =
    let p = err_from_is_err_and c.from_residual.result c.from_residual.ensures.1 in
    rw (p.1, p.2)
    (hotel_stops c.args.hotels.now.items c.args.names.now c.in-Some.behind.now c.in-Some.next.now (named c.files_of-files.result)
    c.name.result.now c.in-Some.ensures.cases.0 c.files_of-files.ensures c.name.ensures
    _ _ c.args.first (c.args.first + 5) _ _ c.in_err-staged.ensures)

pub returns-in_err-load_desks-clause-follows : goal.returns-in_err-load_desks-clause-follows
returns-in_err-load_desks-clause-follows g t c =
    let p = err_from_is_err_and c.from_residual-in_err-load_desks.result c.from_residual-in_err-load_desks.ensures.1 in
    rw (p.1, p.2)
    (hotel_then c.args.hotels.now.items c.args.names.now c.in-Some.behind.now c.in-Some.next.now (named c.files_of-files.result)
    c.name.result.now c.in-Some.ensures.cases.0 c.files_of-files.ensures c.name.ensures
    _ _ _ c.args.first (c.args.first + 5) (c.args.first + 5) _ _ _ _ _ c.in_ok-staged.ensures c.in_ok-keep.ensures refl
    (omega (arith, c.in-Some.ensures.cases.1)) c.in_err-load_desks.ensures.follows)

pub returns-clause-follows : goal.returns-clause-follows
returns-clause-follows g t c =
    hotel_then c.args.hotels.now.items c.args.names.now c.in-Some.behind.now c.in-Some.next.now (named c.files_of-files.result)
    c.name.result.now c.in-Some.ensures.cases.0 c.files_of-files.ensures c.name.ensures
    _ _ _ c.args.first (c.args.first + 5) (c.args.first + 5) _ _ _ _ _ c.in_ok-staged.ensures c.in_ok-keep.ensures refl
    (omega (arith, c.in-Some.ensures.cases.1)) c.in_ok-load_desks.ensures.follows
