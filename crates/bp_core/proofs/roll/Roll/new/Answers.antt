use Rattle.std.proofs.Common.{◌≡◌, ◌∙◌, ◌≤◌, ◌++◌, ◌∷◌, [], ap, arith, length, map, replicate, List, Vec, Global, vec_capacity}
use Rattle.std.proofs.lemmas.List.{map-append, length-map, length-replicate, replicate-append-replicate}
use Rattle.std.proofs.lemmas.List.Elements.{All-push}
use Rattle.bp_core.specs.declared.roll.Standing.{Standing}
use Rattle.bp_core.specs.declared.roll.Standing.TheVariants.{New}
use Rattle.bp_core.specs.declared.roll.Booking.{Booking}
use Rattle.bp_core.proofs.RollLemmas.{items_of}
use Rattle.bp_core.proofs.roll.Roll.new.Goals as goal
use Rattle.bp_types.specs.declared.limits.TheConstants.{CALLERS}

pub loop-preserved : goal.loop-preserved
loop-preserved c =
    let room : c.args.room ≤ vec_capacity c.in_ok-with_capacity.field-0 = omega (arith, c.in_ok-with_capacity.ensures.exact) in
    record {
      all_new = c.in_ok-push.ensures.items ∙ ap (λ (l : List Standing). l ++ New ∷ []) c.loop.invariant.all_new ∙
          replicate-append-replicate c.loop.counter 1 New;
      empty = ap (λ l. map items_of l) c.in_ok-push-2.ensures.items ∙ map-append items_of c.loop.bookings.items (c.in_ok-with_capacity.field-0 ∷ []) ∙
          ap (λ (l : List (List Booking)). l ++ c.in_ok-with_capacity.field-0.items ∷ []) c.loop.invariant.empty ∙
          ap (λ (i : List Booking). replicate c.loop.counter [] ++ i ∷ []) c.in_ok-with_capacity.ensures.items ∙ replicate-append-replicate c.loop.counter 1 [];
      room = rw c.in_ok-push-2.ensures.items
          (All-push (λ (v : Vec Booking Global). c.args.room ≤ vec_capacity v) c.loop.bookings.items c.in_ok-with_capacity.field-0 c.loop.invariant.room room);
    }

pub invariant_of-result : goal.invariant_of-result
invariant_of-result c =
    let last : c.loop.counter ≡ CALLERS = omega arith in
    let all = ap (λ (l : List Standing). length l) c.loop.invariant.all_new ∙ length-replicate c.loop.counter New in
    let each : length (map items_of c.loop.bookings.items) ≡ length c.loop.bookings.items = length-map _ _ in
    let some = ap (λ (l : List (List Booking)). length l) c.loop.invariant.empty ∙ length-replicate c.loop.counter [] in
    (omega (arith, all, last), omega (arith, each, some, last), c.loop.invariant.room)

pub returns : goal.returns
returns c =
    let last : c.loop.counter ≡ CALLERS = omega arith in
    ap (λ (l : List Standing). record { standings = l; bookings = map items_of c.loop.bookings.items; room = c.args.room }) (c.loop.invariant.all_new ∙
    ap (λ n. replicate n New) last) ∙
    ap (λ (l : List (List Booking)). record { standings = replicate CALLERS New; bookings = l; room = c.args.room }) (c.loop.invariant.empty ∙
    ap (λ n. replicate n []) last)
