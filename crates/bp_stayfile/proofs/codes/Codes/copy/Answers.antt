use Rattle.std.proofs.Common.{arith, length-take}
use Rattle.bp_stayfile.proofs.CodeLemmas.{not_before}
use Rattle.bp_stayfile.proofs.codes.Codes.copy.Goals as goal

pub add-requires-clause-new : goal.add-requires-clause-new
add-requires-clause-new c =
    rw (c.loop-stay.invariant, c.code.ensures)
    (not_before c.args.self.now c.loop-stay.stay c.count-stay-end.ensures.codes (omega (arith, c.count-stay-end.ensures.value)))

pub add-requires-clause-room : goal.add-requires-clause-room
add-requires-clause-room c =
    rw c.loop-stay.invariant
    (omega (arith, length-take c.loop-stay.stay c.args.self.now, c.count-stay-end.ensures.value, c.count-stay-end.ensures.codes.few))
