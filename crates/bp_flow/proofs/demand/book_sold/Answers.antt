use Rattle.std.proofs.Common.{ℕ, ◌-◌, ◌∙◌, sym, ap, false, length}
use Rattle.bp_types.proofs.RoomLemmas.{length-rooms_moved}
use Rattle.bp_residual.specs.Network.{Priced}
use Rattle.bp_flow.proofs.BookSteps.{booked_balance, booked_slack}
use Rattle.bp_flow.proofs.demand.book_sold.Goals as goal

pub returns-clause-balanced : goal.returns-clause-balanced
returns-clause-balanced c =
    booked_balance c.args.flow.now c.move_rooms.new.self c.set_demand.new.flow c.args.stay (c.args.forecast - c.args.units)
    c.sold-sold.result c.args.units c.args.span c.requires.solved c.requires.stay c.requires.span c.requires.rooms.1 c.requires.sold c.sold-sold.ensures
    c.move_rooms.ensures c.set_demand.ensures

pub returns-clause-slack : goal.returns-clause-slack
returns-clause-slack c =
    booked_slack c.args.flow.now c.move_rooms.new.self c.set_demand.new.flow c.args.stay (c.args.forecast - c.args.units)
    c.sold-sold.result c.args.units c.args.span c.requires.solved c.requires.stay c.requires.sold c.sold-sold.ensures
    (ap (λ (x : ℕ). x - c.args.units) (sym c.requires.forecast)) c.move_rooms.ensures c.set_demand.ensures

pub returns-clause-nights : goal.returns-clause-nights
returns-clause-nights c =
    ap (λ xs. length xs) c.set_demand.ensures.rooms ∙ ap (λ (q : Priced). length q.flow.program.rooms) c.move_rooms.ensures ∙
    length-rooms_moved c.args.flow.now.flow.program.rooms c.args.span false c.args.units
