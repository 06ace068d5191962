use Rattle.std.proofs.Common.{refl, arith}
use Rattle.std.proofs.lemmas.Result.{err_from_is_err_and}
use Rattle.bp_inputs.proofs.StageLemmas.{follows_stage, follows_stop, follows_made, follows_nothing, leaves_same}
use Rattle.bp_inputs.proofs.house.load_house.Goals as goal

pub returns-in_err-listed : goal.returns-in_err-listed
returns-in_err-listed g c =
    let p = err_from_is_err_and c.from_residual-in_err-listed.result c.from_residual-in_err-listed.ensures.1 in
    rw (p.1, p.2)
    (follows_stage _ _ _ _ _ _ _ _ refl c.in_ok-hotel.ensures.follows
    (follows_stop _ _ _ _ _ _ c.in_err-listed.ensures.follows))

pub returns-in_err-stays : goal.returns-in_err-stays
returns-in_err-stays g c =
    let p = err_from_is_err_and c.from_residual-in_err-stays.result c.from_residual-in_err-stays.ensures.1 in
    rw (p.1, p.2)
    (follows_stage _ _ _ _ _ _ _ _ refl c.in_ok-hotel.ensures.follows
    (follows_stage _ _ _ _ _ _ _ _ (omega arith) c.in_ok-listed.ensures.follows
    (follows_stop _ _ _ _ _ _ c.in_err-stays.ensures.follows)))

pub returns-in_err-sold : goal.returns-in_err-sold
returns-in_err-sold g c =
    let p = err_from_is_err_and c.from_residual-in_err-sold.result c.from_residual-in_err-sold.ensures.1 in
    rw (p.1, p.2)
    (follows_stage _ _ _ _ _ _ _ _ refl c.in_ok-hotel.ensures.follows
    (follows_stage _ _ _ _ _ _ _ _ (omega arith) c.in_ok-listed.ensures.follows
    (follows_stage _ _ _ _ _ _ _ _ (omega arith) c.in_ok-stays.ensures.follows
    (follows_stop _ _ _ _ _ _ c.in_err-sold.ensures.follows))))

pub returns-in_err-house : goal.returns-in_err-house
returns-in_err-house g c =
    let p = err_from_is_err_and c.from_residual-in_err-house.result c.from_residual-in_err-house.ensures.1 in
    rw (p.1)
    (follows_stage _ _ _ _ _ _ _ _ refl c.in_ok-hotel.ensures.follows
    (follows_stage _ _ _ _ _ _ _ _ (omega arith) c.in_ok-listed.ensures.follows
    (follows_stage _ _ _ _ _ _ _ _ (omega arith) c.in_ok-stays.ensures.follows
    (follows_stage _ _ _ _ _ _ _ _ refl c.in_ok-sold.ensures.follows
    (follows_nothing _ _ _ _ _ p.2 (leaves_same _))))))

pub returns : goal.returns
returns g c =
    rw c.in_ok-house.ensures
    (follows_stage _ _ _ _ _ _ _ _ refl c.in_ok-hotel.ensures.follows
    (follows_stage _ _ _ _ _ _ _ _ (omega arith) c.in_ok-listed.ensures.follows
    (follows_stage _ _ _ _ _ _ _ _ (omega arith) c.in_ok-stays.ensures.follows
    (follows_stage _ _ _ _ _ _ _ _ refl c.in_ok-sold.ensures.follows
    (follows_made _ _ _ _ _ refl (omega arith) (leaves_same _))))))
