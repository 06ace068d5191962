use Rattle.std.proofs.Common.{length, Some, None}
use Rattle.bp_stayfile.proofs.CountLemmas.{sold_by_night-is}
use Rattle.bp_stayfile.proofs.BookingLemmas.{bookings_are}
use Rattle.bp_stayfile.proofs.bookings.read_bookings.Goals as goal

pub returns-in-Some-clause-refused : goal.returns-in-Some-clause-refused
returns-in-Some-clause-refused c =
    let (counts, read, laid_out) = rw c.codes.ensures.value at c.in_ok-counts.ensures.read in
    let by_stay = rw c.codes.ensures.list.one_each at laid_out in
    let sums = rw (c.nights.ensures.value, c.deref.ensures.value, c.as_slice.ensures.value) at c.in_ok-rooms.ensures in
    let sold = sold_by_night-is (length c.args.hotel.now.rooms)
    counts c.in_ok-counts.counts.items c.args.stays.now.stays c.in_ok-rooms.rooms.items by_stay sums.0 sums.1 in
    let oversold = rw c.deref-2.ensures.value at c.in-Some.ensures in
    bookings_are c.args.hotel.now.rooms c.args.stays.now c.args.bytes.now counts c.in_ok-rooms.rooms.items (Some c.in-Some.night) read sold oversold

pub returns-clause-read : goal.returns-clause-read
returns-clause-read c =
    let (counts, read, laid_out) = rw c.codes.ensures.value at c.in_ok-counts.ensures.read in
    let by_stay = rw c.codes.ensures.list.one_each at laid_out in
    let sums = rw (c.nights.ensures.value, c.deref.ensures.value, c.as_slice.ensures.value) at c.in_ok-rooms.ensures in
    let sold = sold_by_night-is (length c.args.hotel.now.rooms)
    counts c.in_ok-counts.counts.items c.args.stays.now.stays c.in_ok-rooms.rooms.items by_stay sums.0 sums.1 in
    let oversold = rw c.deref-2.ensures.value at c.in-None.ensures in
    bookings_are c.args.hotel.now.rooms c.args.stays.now c.args.bytes.now counts c.in_ok-rooms.rooms.items None read sold oversold
