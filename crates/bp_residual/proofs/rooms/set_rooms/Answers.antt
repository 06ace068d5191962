use Rattle.std.proofs.Common.{ap, ◌∙◌, true, false, arith}
use Rattle.bp_types.specs.Program.{Program}
use Rattle.bp_residual.proofs.Changed.{night_moved}
use Rattle.bp_residual.proofs.rooms.set_rooms.Goals as goal

pub returns-then-now-rooms-clause-rooms : goal.returns-then-now-rooms-clause-rooms
returns-then-now-rooms-clause-rooms c =
    ap (λ (p : Program). p.rooms) c.apply.ensures.changed ∙ night_moved _ _ _ _ true c.requires.night (omega arith)

pub returns-else-now-rooms-clause-rooms : goal.returns-else-now-rooms-clause-rooms
returns-else-now-rooms-clause-rooms c =
    ap (λ (p : Program). p.rooms) c.apply-else-now-rooms.ensures.changed ∙ night_moved _ _ _ _ false c.requires.night (omega arith)
