use Rattle.bp_demo.proofs.BookingLemmas.{booked_more}
use Rattle.bp_demo.proofs.booking.book_each.Goals as goal

pub loop-stay-preserved : goal.loop-stay-preserved
loop-stay-preserved c =
    booked_more c.args.book.now.house c.args.book.now.history c.loop-stay.stay c.loop-stay.book c.book_stay-reply.new.book c.loop-stay.counts _
    c.book_stay-reply.result
    c.loop-stay.invariant c.book_stay-reply.ensures.booked c.book_stay-reply.ensures.reply c.with-counts.ensures
