use Rattle.bp_demo.proofs.BookingLemmas.{AreBooked}
use Rattle.bp_demo.proofs.booking.book_each.Given as goal

-- the stays before this one are booked
abbrev pub invariant-loop-stay : goal.invariant-loop-stay
invariant-loop-stay l = AreBooked l.fn.book.house l.fn.book.history l.stay l.book l.counts
