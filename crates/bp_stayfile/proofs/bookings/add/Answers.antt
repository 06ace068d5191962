use Rattle.std.proofs.Common.{arith}
use Rattle.bp_stayfile.proofs.BookingLemmas.{night_more}
use Rattle.bp_stayfile.proofs.bookings.add.Goals as goal

pub loop-night-preserved : goal.loop-night-preserved
loop-night-preserved c = λ n.
    night_more c.args.sold.now c.loop-night.sold c.args.span.from c.loop-night.night c.args.rooms n (omega arith) (omega arith) c.loop-night.invariant
