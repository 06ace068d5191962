use Rattle.std.proofs.Common.{refl}
use Rattle.std.proofs.lemmas.Result.{err_from_is_err_and}
use Rattle.bp_inputs.specs.HotelPlan.{hotel_plan, named}
use Rattle.bp_run.specs.Report.{report_command, told_plan}
use Rattle.bp_inputs.specs.declared.house.OpenHotel.{OpenHotel}
use Rattle.bp_inputs.proofs.StageLemmas.{follows_both, follows_first, follows_stage, follows_stop, follows_made, follows_nothing, leaves_same}
use Rattle.bp_run.proofs.EndLemmas.{brings_stop, brings_answer}
use Rattle.bp_inputs.proofs.HotelHouse.{is_opened}
use Rattle.bp_run.proofs.commands.report.answer.Goals as goal

pub returns-in_err-open : goal.returns-in_err-open
returns-in_err-open g c =
    let p = err_from_is_err_and c.from_residual.result c.from_residual.ensures.1 in
    rw (p.1, p.2)
    (brings_stop _ (report_command (named c.args.hotel.now) c.args.journal.now) 6 _
    (follows_first _ (hotel_plan (named c.args.hotel.now)) (λ (inn : OpenHotel). told_plan c.args.journal.now inn) 1 5 6 _ c.in_err-open.ensures))

pub returns-in_err-journal : goal.returns-in_err-journal
returns-in_err-journal g c =
    let p = err_from_is_err_and c.from_residual-in_err-journal.result c.from_residual-in_err-journal.ensures.1 in
    rw (p.1, p.2)
    (brings_stop _ (report_command (named c.args.hotel.now) c.args.journal.now) 6 _
    (follows_both _ _ _ (hotel_plan (named c.args.hotel.now)) (λ (inn : OpenHotel). told_plan c.args.journal.now inn) 1 5 6 _ _ c.in_ok-open.ensures
    (follows_stop _ _ _ _ _ _ c.in_err-journal.ensures.follows)))

pub returns-in_err-told : goal.returns-in_err-told
returns-in_err-told g c =
    let p = err_from_is_err_and c.from_residual-in_err-told.result c.from_residual-in_err-told.ensures.1 in
    rw (p.1)
    (brings_stop _ (report_command (named c.args.hotel.now) c.args.journal.now) 6 _
    (follows_both _ _ _ (hotel_plan (named c.args.hotel.now)) (λ (inn : OpenHotel). told_plan c.args.journal.now inn) 1 5 6 _ _ c.in_ok-open.ensures
    (follows_stage _ _ _ _ _ _ _ _ refl c.in_ok-journal.ensures.follows
    (follows_nothing _ _ _ _ _ p.2 (leaves_same _)))))

pub returns : goal.returns
returns g c =
    brings_answer _ (report_command (named c.args.hotel.now) c.args.journal.now) 6 _ _
    (follows_both _ _ _ (hotel_plan (named c.args.hotel.now)) (λ (inn : OpenHotel). told_plan c.args.journal.now inn) 1 5 6 _ _ c.in_ok-open.ensures
    (follows_stage _ _ _ _ _ _ _ _ refl c.in_ok-journal.ensures.follows
    (follows_made _ _ _ _ _ refl refl (leaves_same _))))
    c.in_ok-told.ensures

pub told-requires-clause-rooms : goal.told-requires-clause-rooms
told-requires-clause-rooms g c = (is_opened _ (named c.args.hotel.now) 1 5 c.in_ok-open.open c.in_ok-open.ensures.answers).0

pub told-requires-clause-stays : goal.told-requires-clause-stays
told-requires-clause-stays g c = (is_opened _ (named c.args.hotel.now) 1 5 c.in_ok-open.open c.in_ok-open.ensures.answers).1
