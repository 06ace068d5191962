use Rattle.std.proofs.Common.{ap, refl, length, get_or, arith}
use Rattle.std.proofs.lemmas.List.{with_items_is}
use Rattle.bp_types.specs.declared.stay.Stay.{Stay}
use Rattle.bp_types.specs.declared.limits.TheConstants.{MOST_FORECAST}
use Rattle.bp_types.specs.Program.{no_stay, covers}
use Rattle.bp_stayfile.proofs.CountLemmas.{one_sold}
use Rattle.bp_stayfile.proofs.BookingLemmas.{stay_more, small_more}
use Rattle.bp_stayfile.proofs.bookings.sold_by_night.Goals as goal

pub loop-stay-preserved : goal.loop-stay-preserved
loop-stay-preserved c =
    let inv = c.loop-stay.invariant in
    let added = rw c.deref_mut.ensures.value at c.add.ensures in
    let items = with_items_is c.loop-stay.sold c.add.new.sold (omega (arith, c.add.auto.sold, c.deref_mut.ensures.len)) in
    let few = one_sold c.requires.counts.0 c.args.counts.now (length c.args.stays.now) c.loop-stay.stay c.requires.counts.1 in
    let stay : Stay = get_or c.args.stays.now c.loop-stay.stay no_stay in
    record {
      size = rw items (omega (arith, c.add.auto.sold, inv.size, ap (λ xs. length xs) c.deref_mut.ensures.value));
      each = λ n below. rw items
          (stay_more c.args.counts.now c.args.stays.now c.loop-stay.stay n stay.span _ _ c.unwrap_or.result refl c.unwrap_or.ensures (inv.each n below)
          (added n (omega (arith, inv.size))));
      small = λ n below. rw items
          (small_more (covers stay.span n) _ _ c.unwrap_or.result MOST_FORECAST c.loop-stay.stay (rw c.unwrap_or.ensures few) (inv.small n below)
          (added n (omega (arith, inv.size))));
    }
