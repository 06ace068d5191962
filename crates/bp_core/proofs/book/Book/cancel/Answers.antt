use Rattle.std.proofs.Common.{◌≡◌, ◌∙◌, ◌≤◌, ◌+◌, ◌-◌, ap, sym, subst, arith, ℕ, refl}
use Rattle.std.proofs.lemmas.Bool.{and_parts, leb-true}
use Rattle.bp_types.specs.declared.command.Command.TheVariants.{Cancel}
use Rattle.bp_core.specs.Acting.{Diary, MayDo}
use Rattle.bp_core.specs.Held.{IsHeld}
use Rattle.bp_core.specs.Log.{LogView}
use Rattle.bp_core.proofs.Counts.{has_room}
use Rattle.bp_core.proofs.Answering.{command_is_logged}
use Rattle.bp_core.proofs.InStepMore.{in_step_more}
use Rattle.bp_core.proofs.Bookings.{act_is_small}
use Rattle.bp_core.proofs.Cancelling.{cancel_is_legal, not_booked_follows, again_follows, none_reply, refused_reply, again_reply, held_booking}
use Rattle.bp_core.specs.Keeping.{IsBookingOf}
use Rattle.bp_core.proofs.book.Book.cancel.Goals as goal

pub booking-requires-clause-caller : goal.booking-requires-clause-caller
booking-requires-clause-caller c =
    let may = let P : Diary → Type 0 = λ b. MayDo b c.args.caller (Cancel c.args.nth) in subst P (sym c.self.view_is) c.requires in
    let small = act_is_small c.self.inside.house c.self.inside.log.lines c.args.caller c.self.invariant.legal may.caller_may in
    let from_one : 1 ≤ c.args.nth = leb-true _ _ (and_parts _ _ may.in_range).0 in
    let were = c.self.invariant.bookings c.args.caller small in
    small

pub logged-requires-clause-room : goal.logged-requires-clause-room
logged-requires-clause-room c =
    omega (arith, has_room _ _ c.self.invariant.legal, c.self.invariant.line_room)

pub logged-requires-in-Refused-clause-room : goal.logged-requires-in-Refused-clause-room
logged-requires-in-Refused-clause-room c =
    omega (arith, has_room _ _ c.self.invariant.legal, c.self.invariant.line_room)

pub logged-requires-in-GivenUp-clause-room : goal.logged-requires-in-GivenUp-clause-room
logged-requires-in-GivenUp-clause-room c =
    omega (arith, has_room _ _ c.self.invariant.legal, c.self.invariant.line_room)

pub invariant_of-self : goal.invariant_of-self
invariant_of-self c =
    let may = let P : Diary → Type 0 = λ b. MayDo b c.args.caller (Cancel c.args.nth) in subst P (sym c.self.view_is) c.requires in
    let small = act_is_small c.self.inside.house c.self.inside.log.lines c.args.caller c.self.invariant.legal may.caller_may in
    let from_one : 1 ≤ c.args.nth = leb-true _ _ (and_parts _ _ may.in_range).0 in
    let were = c.self.invariant.bookings c.args.caller small in
    let reply = none_reply c.self.inside.log.lines c.args.caller c.args.nth _ from_one were (sym c.booking.ensures ∙ c.in-None.is) in
    in_step_more _ _ _ _ _ _ _ _ _ _ _ _ c.self.invariant
    (cancel_is_legal _ _ c.args.caller c.args.nth _ c.self.invariant.legal may.caller_may may.in_range may.not_full reply) c.logged.ensures.log
    (not_booked_follows _ _ _ _ _ _ c.args.caller c.args.nth c.self.invariant)

pub invariant_of-self-in-Refused : goal.invariant_of-self-in-Refused
invariant_of-self-in-Refused c =
    let may = let P : Diary → Type 0 = λ b. MayDo b c.args.caller (Cancel c.args.nth) in subst P (sym c.self.view_is) c.requires in
    let small = act_is_small c.self.inside.house c.self.inside.log.lines c.args.caller c.self.invariant.legal may.caller_may in
    let from_one : 1 ≤ c.args.nth = leb-true _ _ (and_parts _ _ may.in_range).0 in
    let were = c.self.invariant.bookings c.args.caller small in
    let place : c.args.nth - 1 + 1 ≡ c.args.nth = omega (arith, from_one) in
    let kept = let P : ℕ → Type 0 = λ n. IsBookingOf c.self.inside.log.lines c.args.caller n c.in-Some.booking in
    subst P place (were.each (c.args.nth - 1) c.in-Some.booking (sym c.booking.ensures ∙ c.in-Some.is)) in
    let reply = refused_reply c.self.inside.log.lines c.args.caller c.args.nth c.in-Some.booking kept c.in-Refused.is in
    in_step_more _ _ _ _ _ _ _ _ _ _ _ _ c.self.invariant
    (cancel_is_legal _ _ c.args.caller c.args.nth _ c.self.invariant.legal may.caller_may may.in_range may.not_full reply) c.logged-in-Refused.ensures.log
    (not_booked_follows _ _ _ _ _ _ c.args.caller c.args.nth c.self.invariant)

pub invariant_of-self-in-GivenUp : goal.invariant_of-self-in-GivenUp
invariant_of-self-in-GivenUp c =
    let may = let P : Diary → Type 0 = λ b. MayDo b c.args.caller (Cancel c.args.nth) in subst P (sym c.self.view_is) c.requires in
    let small = act_is_small c.self.inside.house c.self.inside.log.lines c.args.caller c.self.invariant.legal may.caller_may in
    let from_one : 1 ≤ c.args.nth = leb-true _ _ (and_parts _ _ may.in_range).0 in
    let were = c.self.invariant.bookings c.args.caller small in
    let place : c.args.nth - 1 + 1 ≡ c.args.nth = omega (arith, from_one) in
    let kept = let P : ℕ → Type 0 = λ n. IsBookingOf c.self.inside.log.lines c.args.caller n c.in-Some.booking in
    subst P place (were.each (c.args.nth - 1) c.in-Some.booking (sym c.booking.ensures ∙ c.in-Some.is)) in
    let reply = again_reply c.self.inside.log.lines c.args.caller c.args.nth c.in-Some.booking kept c.in-GivenUp.is in
    in_step_more _ _ _ _ _ _ _ _ _ _ _ _ c.self.invariant
    (cancel_is_legal _ _ c.args.caller c.args.nth _ c.self.invariant.legal may.caller_may may.in_range may.not_full reply) c.logged-in-GivenUp.ensures.log
    (again_follows _ _ _ _ _ _ c.args.caller c.args.nth c.self.invariant)

pub give_up-requires-clause-held : goal.give_up-requires-clause-held
give_up-requires-clause-held c =
    let may = let P : Diary → Type 0 = λ b. MayDo b c.args.caller (Cancel c.args.nth) in subst P (sym c.self.view_is) c.requires in
    let small = act_is_small c.self.inside.house c.self.inside.log.lines c.args.caller c.self.invariant.legal may.caller_may in
    let from_one : 1 ≤ c.args.nth = leb-true _ _ (and_parts _ _ may.in_range).0 in
    let were = c.self.invariant.bookings c.args.caller small in
    let place : c.args.nth - 1 + 1 ≡ c.args.nth = omega (arith, from_one) in
    let kept = let P : ℕ → Type 0 = λ n. IsBookingOf c.self.inside.log.lines c.args.caller n c.in-Some.booking in
    subst P place (were.each (c.args.nth - 1) c.in-Some.booking (sym c.booking.ensures ∙ c.in-Some.is)) in
    let P : Diary → Type 0 = λ b. IsHeld b.history c.args.caller c.args.nth c.in-Some.booking.stay in
    subst P c.self.view_is (held_booking c.self.inside.log.lines c.args.caller c.args.nth c.in-Some.booking.stay c.in-Some.booking kept c.in-Held.is refl)

pub returns-in-None : goal.returns-in-None
returns-in-None c =
    let may = let P : Diary → Type 0 = λ b. MayDo b c.args.caller (Cancel c.args.nth) in subst P (sym c.self.view_is) c.requires in
    let small = act_is_small c.self.inside.house c.self.inside.log.lines c.args.caller c.self.invariant.legal may.caller_may in
    let from_one : 1 ≤ c.args.nth = leb-true _ _ (and_parts _ _ may.in_range).0 in
    let were = c.self.invariant.bookings c.args.caller small in
    let reply = none_reply c.self.inside.log.lines c.args.caller c.args.nth _ from_one were (sym c.booking.ensures ∙ c.in-None.is) in
    command_is_logged _ _ _ _ _ _ _ _ _ c.self.view_is c.logged.ensures.answer reply (ap (λ (l : LogView). l.lines) c.logged.ensures.log)

pub returns-in-Refused : goal.returns-in-Refused
returns-in-Refused c =
    let may = let P : Diary → Type 0 = λ b. MayDo b c.args.caller (Cancel c.args.nth) in subst P (sym c.self.view_is) c.requires in
    let small = act_is_small c.self.inside.house c.self.inside.log.lines c.args.caller c.self.invariant.legal may.caller_may in
    let from_one : 1 ≤ c.args.nth = leb-true _ _ (and_parts _ _ may.in_range).0 in
    let were = c.self.invariant.bookings c.args.caller small in
    let place : c.args.nth - 1 + 1 ≡ c.args.nth = omega (arith, from_one) in
    let kept = let P : ℕ → Type 0 = λ n. IsBookingOf c.self.inside.log.lines c.args.caller n c.in-Some.booking in
    subst P place (were.each (c.args.nth - 1) c.in-Some.booking (sym c.booking.ensures ∙ c.in-Some.is)) in
    let reply = refused_reply c.self.inside.log.lines c.args.caller c.args.nth c.in-Some.booking kept c.in-Refused.is in
    command_is_logged _ _ _ _ _ _ _ _ _ c.self.view_is c.logged-in-Refused.ensures.answer reply (ap (λ (l : LogView). l.lines) c.logged-in-Refused.ensures.log)

pub returns-in-GivenUp : goal.returns-in-GivenUp
returns-in-GivenUp c =
    let may = let P : Diary → Type 0 = λ b. MayDo b c.args.caller (Cancel c.args.nth) in subst P (sym c.self.view_is) c.requires in
    let small = act_is_small c.self.inside.house c.self.inside.log.lines c.args.caller c.self.invariant.legal may.caller_may in
    let from_one : 1 ≤ c.args.nth = leb-true _ _ (and_parts _ _ may.in_range).0 in
    let were = c.self.invariant.bookings c.args.caller small in
    let place : c.args.nth - 1 + 1 ≡ c.args.nth = omega (arith, from_one) in
    let kept = let P : ℕ → Type 0 = λ n. IsBookingOf c.self.inside.log.lines c.args.caller n c.in-Some.booking in
    subst P place (were.each (c.args.nth - 1) c.in-Some.booking (sym c.booking.ensures ∙ c.in-Some.is)) in
    let reply = again_reply c.self.inside.log.lines c.args.caller c.args.nth c.in-Some.booking kept c.in-GivenUp.is in
    command_is_logged _ _ _ _ _ _ _ _ _ c.self.view_is c.logged-in-GivenUp.ensures.answer reply (ap (λ (l : LogView). l.lines) c.logged-in-GivenUp.ensures.log)
