use Rattle.std.proofs.Common.{refl, ◌+◌, arith}
use Rattle.std.proofs.lemmas.Result.{err_from_is_err_and}
use Rattle.bp_inputs.specs.HotelPlan.{hotel_plan, named}
use Rattle.bp_run.specs.Desk.{script_plan}
use Rattle.bp_inputs.specs.declared.house.OpenHotel.{OpenHotel}
use Rattle.bp_inputs.proofs.StageLemmas.{follows_both, follows_first, follows_stage, follows_stop, follows_made, leaves_same}
use Rattle.bp_run.proofs.commands.desk.load_desk.Goals as goal

pub returns-in_err-open : goal.returns-in_err-open
returns-in_err-open g c =
    let p = err_from_is_err_and c.from_residual.result c.from_residual.ensures.1 in
    rw (p.1, p.2)
    (follows_first _ (hotel_plan (named c.args.hotel.now)) (λ (inn : OpenHotel). script_plan c.args.script.now inn) c.args.first (c.args.first + 4)
    (c.args.first + 5) _ c.in_err-open.ensures)

pub returns-in_err-scripts : goal.returns-in_err-scripts
returns-in_err-scripts g c =
    let p = err_from_is_err_and c.from_residual-in_err-scripts.result c.from_residual-in_err-scripts.ensures.1 in
    rw (p.1, p.2)
    (follows_both _ _ _ (hotel_plan (named c.args.hotel.now)) (λ (inn : OpenHotel). script_plan c.args.script.now inn) c.args.first (c.args.first + 4)
    (c.args.first + 5) _ _ c.in_ok-open.ensures
    (follows_stop _ _ _ _ _ _ c.in_err-scripts.ensures.follows))

pub returns : goal.returns
returns g c =
    rw (c.new.ensures, c.into_vec.ensures)
    (follows_both _ _ _ (hotel_plan (named c.args.hotel.now)) (λ (inn : OpenHotel). script_plan c.args.script.now inn) c.args.first (c.args.first + 4)
    (c.args.first + 5) _ _ c.in_ok-open.ensures
    (follows_stage _ _ _ _ _ _ _ _ refl c.in_ok-scripts.ensures.follows
    (follows_made _ _ _ _ _ refl (omega arith) (leaves_same _))))
