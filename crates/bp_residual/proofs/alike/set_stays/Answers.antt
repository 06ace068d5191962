use Rattle.std.proofs.Common.{arith}
use Rattle.bp_residual.proofs.SetTo.{stays_done}
use Rattle.bp_residual.proofs.alike.set_stays.Goals as goal

pub returns-clause-stays : goal.returns-clause-stays
returns-clause-stays c = stays_done _ _ c.loop-stay.stay c.loop-stay.invariant.0 (omega (arith, c.loop-stay-test.false, c.stays-stay-end.ensures.value))
