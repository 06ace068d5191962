use Rattle.std.proofs.Common.{ap, ◌∙◌, true, length, arith}
use Rattle.bp_residual.specs.Network.{Priced}
use Rattle.bp_types.proofs.RoomLemmas.{length-rooms_moved}
use Rattle.bp_flow.proofs.RoomSteps.{rise_imbalance, moved_slack}
use Rattle.bp_flow.proofs.rooms.add_rooms.Goals as goal

pub returns-clause-program : goal.returns-clause-program
returns-clause-program c = ap (λ (p : Priced). p.flow.program) c.move_rooms.ensures

pub returns-clause-nights : goal.returns-clause-nights
returns-clause-nights c =
    ap (λ (p : Priced). length p.flow.program.rooms) c.move_rooms.ensures ∙ length-rooms_moved c.args.flow.now.flow.program.rooms c.args.span true c.args.units

pub returns-clause-slack : goal.returns-clause-slack
returns-clause-slack c = moved_slack c.args.flow.now c.move_rooms.new.self c.args.span true c.args.units c.requires.solved.slack c.move_rooms.ensures

pub returns-clause-imbalance : goal.returns-clause-imbalance
returns-clause-imbalance c =
    rise_imbalance c.args.flow.now c.move_rooms.new.self c.args.span c.args.units (omega (arith, c.requires.fits.0))
    c.requires.solved.balanced c.move_rooms.ensures

pub returns-clause-few : goal.returns-clause-few
returns-clause-few c = omega (arith, c.requires.fits.1 c.args.span.from (omega arith) (omega (arith, c.requires.fits.0)))
