use Rattle.std.proofs.Common.{◌∙◌, ◌++◌, ◌∷◌, [], List, ap, sym, arith, map, set}
use Rattle.std.proofs.lemmas.List.{map-set}
use Rattle.bp_core.specs.declared.roll.Booking.{Booking}
use Rattle.bp_core.specs.Roll.{RollView, bookings_of, with_bookings}
use Rattle.bp_core.proofs.RollLemmas.{items_of, bookings_read}
use Rattle.bp_core.proofs.roll.Roll.add.Goals as goal

pub returns : goal.returns
returns c =
    let vs = c.self.inside.bookings.items in
    let more : List Booking → List Booking = λ l. l ++ c.args.booking ∷ [] in
    let before = bookings_read vs c.args.caller _ (omega (arith, c.self.invariant.1)) c.index_mut-bookings.ensures.value in
    let done = map-set items_of vs c.args.caller c.push_reserved.new.self ∙
    ap (λ w. set (map items_of vs) c.args.caller w) (c.push_reserved.ensures.items ∙ ap more (sym before)) in
    ap (λ (bs : List (List Booking)). record { standings = c.self.inside.standings.items; bookings = bs; room = c.self.inside.room }) done ∙
    ap (λ (k : RollView). with_bookings k c.args.caller (more (bookings_of k c.args.caller))) c.self.view_is
