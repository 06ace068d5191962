use Rattle.std.proofs.Common.{◌∙◌, sym, subst}
use Rattle.bp_core.specs.Acting.{Diary}
use Rattle.bp_desk.specs.Calling.{HasTurn}
use Rattle.bp_desk.proofs.Standing.{knows_given}
use Rattle.bp_desk.proofs.desk.Desk.give.Goals as goal

pub returns-clause-newest : goal.returns-clause-newest
returns-clause-newest c =
    let t = c.requires.turn in
    knows_given t.0 c.args.seat.now c.give.new.seat c.deref.result.now c.args.newest.now c.learn.new.self
    (subst (λ (d : Diary). HasTurn t.0 c.args.seat.now d) (sym (c.deref.ensures ∙ c.shared.view_is)) t.1) t.2 t.3
    c.give.ensures c.learn.ensures.same c.learn.ensures.other
