use Rattle.std.proofs.Common.{◌≡◌, ◌<◌, sym, true, slice_index, length, arith}
use Rattle.std.proofs.lemmas.Bool.{lt-ltb}
use Rattle.bp_types.specs.House.{is_oversold}
use Rattle.bp_types.proofs.Firsts.{find-range_none, find-range_some}
use Rattle.bp_stayfile.proofs.bookings.overbooked.Goals as goal

pub returns-then-rooms-sold : goal.returns-then-rooms-sold
returns-then-rooms-sold c =
    let less : slice_index c.args.hotel.now.rooms c.loop-night.night < slice_index c.args.sold.now c.loop-night.night =
    rw (← c.rooms.ensures) c.if-rooms-sold.true in
    let here : is_oversold c.args.hotel.now.rooms c.args.sold.now c.loop-night.night ≡ true = lt-ltb _ _ less in
    sym (find-range_some (is_oversold c.args.hotel.now.rooms c.args.sold.now) 0 (length c.args.hotel.now.rooms) c.loop-night.night (omega arith)
    (omega (arith, c.nights-night-end.ensures.value))
    (λ k above below. c.loop-night.invariant k below) here)

pub returns : goal.returns
returns c =
    sym (find-range_none (is_oversold c.args.hotel.now.rooms c.args.sold.now) 0 (length c.args.hotel.now.rooms)
    (λ k above below. c.loop-night.invariant k (omega (arith, c.nights-night-end.ensures.value))))
