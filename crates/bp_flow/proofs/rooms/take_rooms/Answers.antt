use Rattle.std.proofs.Common.{ap, ◌∙◌, false, length, arith}
use Rattle.bp_residual.specs.Network.{Priced}
use Rattle.bp_types.proofs.RoomLemmas.{length-rooms_moved}
use Rattle.bp_flow.proofs.RoomSteps.{fall_imbalance, moved_slack}
use Rattle.bp_flow.proofs.rooms.take_rooms.Goals as goal

pub returns-clause-program : goal.returns-clause-program
returns-clause-program c = ap (λ (p : Priced). p.flow.program) c.move_rooms.ensures

pub returns-clause-nights : goal.returns-clause-nights
returns-clause-nights c =
    ap (λ (p : Priced). length p.flow.program.rooms) c.move_rooms.ensures ∙ length-rooms_moved c.args.flow.now.flow.program.rooms c.args.span false c.args.units

pub returns-clause-slack : goal.returns-clause-slack
returns-clause-slack c = moved_slack c.args.flow.now c.move_rooms.new.self c.args.span false c.args.units c.requires.solved.slack c.move_rooms.ensures

pub returns-clause-imbalance : goal.returns-clause-imbalance
returns-clause-imbalance c =
    fall_imbalance c.args.flow.now c.move_rooms.new.self c.args.span c.args.units (omega (arith, c.requires.fits.0))
    c.requires.fits.1 c.requires.solved.balanced c.move_rooms.ensures

pub returns-clause-few : goal.returns-clause-few
returns-clause-few c =
    let night = c.args.span.from in
    let within = c.requires.fits.0 in
    omega (
      arith,
      c.requires.fits.1 night (omega arith) (omega (arith, within.0)),
      c.requires.solved.priced.limits.rooms night 0 (omega (arith, within.0, within.1)),
    )
