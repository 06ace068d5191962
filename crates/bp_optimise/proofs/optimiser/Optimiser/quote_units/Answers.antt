use Rattle.std.proofs.Common.{rules, ◌≡◌, ◌*◌, ◌<◌, Some, arith, slice_index}
use Rattle.bp_types.specs.declared.limits.TheConstants.{MOST_UNITS}
use Rattle.bp_types.specs.Spans.{first_short}
use Rattle.bp_types.specs.Limits.{IsWithinLimits}
use Rattle.bp_optimise.proofs.Lacking.{short_lacks, far_lacks}
use Rattle.bp_optimise.proofs.optimiser.Optimiser.quote_units.Goals as goal

pub returns-in_default : goal.returns-in_default
returns-in_default g c =
    let p = c.args.self.now.solver.flow.program in
    let limits : IsWithinLimits p = search rules in
    let many : MOST_UNITS < c.args.unit * c.args.rooms = grind arith in
    far_lacks p c.args.span (c.args.unit * c.args.rooms) limits c.requires many

pub returns-in-Err-NoRoom : goal.returns-in-Err-NoRoom
returns-in-Err-NoRoom g c =
    let p = c.args.self.now.solver.flow.program in
    let short : first_short (slice_index p.rooms) c.args.span (c.args.unit * c.args.rooms) ≡ Some c.in-Err-NoRoom.field-0-0 = grind arith in
    short_lacks p c.args.span (c.args.unit * c.args.rooms) c.in-Err-NoRoom.field-0-0 c.requires.0 short
