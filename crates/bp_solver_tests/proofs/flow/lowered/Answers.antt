use Rattle.std.proofs.Common.{◌≡◌, slice_index, ap, arith}
use Rattle.bp_solver_tests.proofs.flow.lowered.Goals as goal

pub lower-requires : goal.lower-requires
lower-requires g c = (
  (omega (arith, c.if-from-to.false), omega (arith, c.nights.ensures.value, c.if-to-nights.false)),
  λ n above below.
      let only : n ≡ c.args.span.from = omega (arith, c.if-to-from-gt1.false) in
      let at = ap (slice_index c.args.solver.now.flow.program.rooms) only in
      omega (arith, at, c.rooms.ensures, c.if-units-rooms.false),
)
