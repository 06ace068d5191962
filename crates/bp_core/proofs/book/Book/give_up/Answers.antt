use Rattle.std.proofs.Common.{◌≡◌, ◌∙◌, ◌<◌, ◌≤◌, ◌∷◌, [], ap, sym, subst, arith, length, refl, true}
use Rattle.std.proofs.lemmas.Bool.{and_parts, and_from, leb-true, le-leb, lt-ltb}
use Rattle.std.specs.Prelude.{slice_index_or, slice_index}
use Rattle.bp_types.specs.declared.stay.Span.{Span}
use Rattle.bp_types.specs.declared.stay.Stay.{Stay}
use Rattle.bp_types.specs.declared.change.Change.TheVariants.{Rooms}
use Rattle.bp_types.specs.declared.command.Limits.{Limits}
use Rattle.bp_types.specs.declared.command.Command.TheVariants.{Cancel}
use Rattle.bp_types.specs.Program.{covers, no_stay}
use Rattle.bp_ledger.specs.Inventory.{Inventory, released}
use Rattle.bp_core.specs.declared.line.Act.TheVariants.{Do}
use Rattle.bp_core.specs.declared.line.Reply.TheVariants.{Cancelled}
use Rattle.bp_core.specs.declared.line.Line.{Line}
use Rattle.bp_core.specs.Acting.{Diary, MayDo, plain_line}
use Rattle.bp_core.specs.Held.{IsHeld}
use Rattle.bp_core.specs.Changes.{span_booked}
use Rattle.bp_core.specs.Log.{LogView}
use Rattle.bp_core.proofs.Counts.{has_room}
use Rattle.bp_core.proofs.Answering.{pushed, command_is_logged}
use Rattle.bp_core.proofs.InStepMore.{in_step_more}
use Rattle.bp_core.proofs.Resizing.{nights_of_stock}
use Rattle.bp_core.proofs.Stocking.{sold_of_stock}
use Rattle.bp_core.proofs.Bookings.{act_is_small}
use Rattle.bp_core.proofs.Cancelling.{cancel_is_legal, stock_has_sold, held_reply, held_span, held_in_range, held_within, give_up_follows}
use Rattle.bp_core.proofs.book.Book.give_up.Goals as goal

pub stay-requires : goal.stay-requires
stay-requires c =
    let may = let P : Diary → Type 0 = λ b. MayDo b c.args.caller (Cancel c.args.nth) in subst P (sym c.self.view_is) c.requires.may in
    let small = act_is_small c.self.inside.house c.self.inside.log.lines c.args.caller c.self.invariant.legal may.caller_may in
    let from_one : 1 ≤ c.args.nth = leb-true _ _ (and_parts _ _ may.in_range).0 in
    let held = let P : Diary → Type 0 = λ b. IsHeld b.history c.args.caller c.args.nth c.args.stay in subst P (sym c.self.view_is) c.requires.held in
    let within = held_in_range c.self.inside.house c.self.inside.log.lines c.args.caller c.args.nth c.args.stay c.self.invariant.legal held in
    omega (arith, within, c.from.ensures)

pub release-requires-clause-span : goal.release-requires-clause-span
release-requires-clause-span c =
    let may = let P : Diary → Type 0 = λ b. MayDo b c.args.caller (Cancel c.args.nth) in subst P (sym c.self.view_is) c.requires.may in
    let small = act_is_small c.self.inside.house c.self.inside.log.lines c.args.caller c.self.invariant.legal may.caller_may in
    let from_one : 1 ≤ c.args.nth = leb-true _ _ (and_parts _ _ may.in_range).0 in
    let held = let P : Diary → Type 0 = λ b. IsHeld b.history c.args.caller c.args.nth c.args.stay in subst P (sym c.self.view_is) c.requires.held in
    let within = held_in_range c.self.inside.house c.self.inside.log.lines c.args.caller c.args.nth c.args.stay c.self.invariant.legal held in
    let stay = c.stay.ensures ∙ ap (λ j. slice_index_or c.self.inside.house.stays j no_stay) c.from.ensures in
    let span = ap (λ (s : Stay). s.span) stay in
    let spans = c.self.invariant.house.instance.spans c.args.stay no_stay within in
    let ordered : c.stay.result.span.from < c.stay.result.span.to = omega (arith, spans.0, ap (λ (s : Span). s.from) span, ap (λ (s : Span). s.to) span) in
    let inside : c.stay.result.span.to ≤ length c.self.inside.house.rooms = omega (arith, spans.1, ap (λ (s : Span). s.to) span) in
    (ordered, omega (arith, inside, nights_of_stock c.self.inside.house c.self.inside.log.lines _ c.self.invariant.stock))

pub release-requires-clause-sold : goal.release-requires-clause-sold
release-requires-clause-sold c =
    let may = let P : Diary → Type 0 = λ b. MayDo b c.args.caller (Cancel c.args.nth) in subst P (sym c.self.view_is) c.requires.may in
    let small = act_is_small c.self.inside.house c.self.inside.log.lines c.args.caller c.self.invariant.legal may.caller_may in
    let from_one : 1 ≤ c.args.nth = leb-true _ _ (and_parts _ _ may.in_range).0 in
    let held = let P : Diary → Type 0 = λ b. IsHeld b.history c.args.caller c.args.nth c.args.stay in subst P (sym c.self.view_is) c.requires.held in
    let within = held_in_range c.self.inside.house c.self.inside.log.lines c.args.caller c.args.nth c.args.stay c.self.invariant.legal held in
    let stay = c.stay.ensures ∙ ap (λ j. slice_index_or c.self.inside.house.stays j no_stay) c.from.ensures in
    let span = ap (λ (s : Stay). s.span) stay in
    let spans = c.self.invariant.house.instance.spans c.args.stay no_stay within in
    let ordered : c.stay.result.span.from < c.stay.result.span.to = omega (arith, spans.0, ap (λ (s : Span). s.from) span, ap (λ (s : Span). s.to) span) in
    let inside : c.stay.result.span.to ≤ length c.self.inside.house.rooms = omega (arith, spans.1, ap (λ (s : Span). s.to) span) in
    λ n above below.
    let covered : covers c.stay.result.span n ≡ true = and_from _ _ (le-leb _ _ above) (lt-ltb _ _ below) in
    let sold = ap (λ (v : Inventory). slice_index v.sold n) c.self.invariant.stock ∙
    sold_of_stock c.self.inside.house c.self.inside.log.lines n (omega (arith, inside, below)) in
    omega (
      arith,
      sold,
      stock_has_sold c.self.inside.house c.self.inside.log.lines c.args.caller c.args.nth c.args.stay n from_one held
          (ap (λ s. covers s n) (sym span) ∙ covered),
    )

pub set_booking-requires-clause-caller : goal.set_booking-requires-clause-caller
set_booking-requires-clause-caller c =
    let may = let P : Diary → Type 0 = λ b. MayDo b c.args.caller (Cancel c.args.nth) in subst P (sym c.self.view_is) c.requires.may in
    let small = act_is_small c.self.inside.house c.self.inside.log.lines c.args.caller c.self.invariant.legal may.caller_may in
    let from_one : 1 ≤ c.args.nth = leb-true _ _ (and_parts _ _ may.in_range).0 in
    let held = let P : Diary → Type 0 = λ b. IsHeld b.history c.args.caller c.args.nth c.args.stay in subst P (sym c.self.view_is) c.requires.held in
    small

pub set_booking-requires-clause-within : goal.set_booking-requires-clause-within
set_booking-requires-clause-within c =
    let may = let P : Diary → Type 0 = λ b. MayDo b c.args.caller (Cancel c.args.nth) in subst P (sym c.self.view_is) c.requires.may in
    let small = act_is_small c.self.inside.house c.self.inside.log.lines c.args.caller c.self.invariant.legal may.caller_may in
    let from_one : 1 ≤ c.args.nth = leb-true _ _ (and_parts _ _ may.in_range).0 in
    let held = let P : Diary → Type 0 = λ b. IsHeld b.history c.args.caller c.args.nth c.args.stay in subst P (sym c.self.view_is) c.requires.held in
    held_within c.self.inside.log.lines c.args.caller c.args.nth c.args.stay _ from_one (c.self.invariant.bookings c.args.caller small) held

pub logged-requires-clause-room : goal.logged-requires-clause-room
logged-requires-clause-room c =
    omega (arith, has_room _ _ c.self.invariant.legal, c.self.invariant.line_room)

pub invariant_of-self : goal.invariant_of-self
invariant_of-self c =
    let may = let P : Diary → Type 0 = λ b. MayDo b c.args.caller (Cancel c.args.nth) in subst P (sym c.self.view_is) c.requires.may in
    let small = act_is_small c.self.inside.house c.self.inside.log.lines c.args.caller c.self.invariant.legal may.caller_may in
    let from_one : 1 ≤ c.args.nth = leb-true _ _ (and_parts _ _ may.in_range).0 in
    let held = let P : Diary → Type 0 = λ b. IsHeld b.history c.args.caller c.args.nth c.args.stay in subst P (sym c.self.view_is) c.requires.held in
    let within = held_in_range c.self.inside.house c.self.inside.log.lines c.args.caller c.args.nth c.args.stay c.self.invariant.legal held in
    let stay = c.stay.ensures ∙ ap (λ j. slice_index_or c.self.inside.house.stays j no_stay) c.from.ensures in
    let span = ap (λ (s : Stay). s.span) stay in
    let spans = c.self.invariant.house.instance.spans c.args.stay no_stay within in
    let ordered : c.stay.result.span.from < c.stay.result.span.to = omega (arith, spans.0, ap (λ (s : Span). s.from) span, ap (λ (s : Span). s.to) span) in
    let inside : c.stay.result.span.to ≤ length c.self.inside.house.rooms = omega (arith, spans.1, ap (λ (s : Span). s.to) span) in
    let x : Line = plain_line c.args.caller (Do (Cancel c.args.nth)) Cancelled in
    let units = ap (λ (l : Limits). l.unit) c.limits-units.ensures.value in
    let log = c.logged.ensures.log ∙
    ap (λ s. pushed c.self.inside.log x (Rooms s true c.limits-units.result.unit ∷ [])) (span ∙
    held_span c.self.inside.house c.self.inside.log.lines c.args.caller c.args.nth c.args.stay held) ∙
    ap (λ u. pushed c.self.inside.log x (Rooms (span_booked c.self.inside.house c.self.inside.log.lines c.args.caller c.args.nth) true u ∷ [])) units in
    let stock = c.release.ensures ∙ ap (λ s. released c.self.inside.ledger s 1) span in
    rw c.set_booking.ensures
    (in_step_more _ _ _ _ _ _ _ _ _ _ _ _ c.self.invariant
    (cancel_is_legal _ _ c.args.caller c.args.nth _ c.self.invariant.legal may.caller_may may.in_range may.not_full
    (held_reply c.self.inside.log.lines c.args.caller c.args.nth c.args.stay held)) log
    (give_up_follows _ _ _ _ _ _ _ c.args.caller c.args.nth c.args.stay _ c.self.invariant small from_one held refl refl stock))

pub returns : goal.returns
returns c =
    let may = let P : Diary → Type 0 = λ b. MayDo b c.args.caller (Cancel c.args.nth) in subst P (sym c.self.view_is) c.requires.may in
    let small = act_is_small c.self.inside.house c.self.inside.log.lines c.args.caller c.self.invariant.legal may.caller_may in
    let from_one : 1 ≤ c.args.nth = leb-true _ _ (and_parts _ _ may.in_range).0 in
    let held = let P : Diary → Type 0 = λ b. IsHeld b.history c.args.caller c.args.nth c.args.stay in subst P (sym c.self.view_is) c.requires.held in
    command_is_logged _ _ _ _ _ _ _ _ _ c.self.view_is c.logged.ensures.answer (held_reply c.self.inside.log.lines c.args.caller c.args.nth c.args.stay held)
    (ap (λ (l : LogView). l.lines) c.logged.ensures.log)
