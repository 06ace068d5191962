-- What a reply that changes something says of its moment.
use Rattle.std.proofs.Common.{◌≡◌, ℕ, ◌-◌, refl, Bool, true, false, cond, Option, Some, None, is_some}
use Rattle.std.specs.List.{list_any}
use Rattle.std.proofs.lemmas.Bool.{and_parts}
use Rattle.bp_core.specs.declared.line.Reply.{Reply}
use Rattle.bp_core.specs.declared.line.Reply.TheVariants.{Cancelled, NotBooked, AlreadyCancelled, Done, GroupAccepted}
use Rattle.bp_core.specs.declared.line.Line.{Line}
use Rattle.bp_core.specs.Lines.{
  History,
  nth_book,
  booked_stay,
  is_book,
  is_book_by,
  is_by,
  is_accepted,
  is_cancelled,
  is_cancellation,
  is_done,
  is_group_accepted,
}
use Rattle.bp_core.specs.Answer.{cancel_reply, given_up_reply}
use Rattle.bp_core.specs.Held.{IsHeld}
use Rattle.bp_core.proofs.Cancelling.{filter_stands}

some_is : {X : Type 0} (o : Option X) → is_some o ≡ true → (x : X) × (o ≡ Some x)
some_is None h = absurd (cc)
some_is (Some x) h = (x, refl)

gives_up : (accepted again : Bool) → is_cancelled (cond accepted (cond again AlreadyCancelled Cancelled) NotBooked) ≡ true → (accepted ≡ true) × (again ≡ false)
gives_up true true h = absurd (cc)
gives_up true false h = (refl, refl)
gives_up false again h = absurd (cc)

held_of : (H : History) (caller nth : ℕ) (found : Option Line) → nth_book H caller nth ≡ found →
    is_cancelled (given_up_reply found (list_any (is_cancellation caller nth) H)) ≡ true → (stay : ℕ) × IsHeld H caller nth stay
held_of H caller nth None is h = absurd (cc)
held_of H caller nth (Some line) is h =
    let at = filter_stands (is_book_by caller) H (nth - 1) line is in
    let stay = some_is (booked_stay line.entry.act) (and_parts (is_by caller line) (is_book line) at.1.passes).1 in
    let both = gives_up (is_accepted line.entry.reply) (list_any (is_cancellation caller nth) H) h in
    (stay.0, record { line = line; is_nth = is; stay_is = stay.1; accepted = both.0; kept = both.1 })

-- a booking that is given up was held
pub cancelled_held : (H : History) (caller nth : ℕ) → is_cancelled (cancel_reply H caller nth) ≡ true → (stay : ℕ) × IsHeld H caller nth stay
cancelled_held H caller nth h = held_of H caller nth (nth_book H caller nth) refl h

pub cancelled_is : (reply : Reply) → is_cancelled reply ≡ true → reply ≡ Cancelled
cancelled_is Cancelled h = refl
cancelled_is _ h = absurd (cc)

pub done_is : (reply : Reply) → is_done reply ≡ true → reply ≡ Done
done_is Done h = refl
done_is _ h = absurd (cc)

pub accepted_group_is : (reply : Reply) → is_group_accepted reply ≡ true → (displacement : ℕ) × (reply ≡ GroupAccepted displacement)
accepted_group_is (GroupAccepted displacement) h = (displacement, refl)
accepted_group_is _ h = absurd (cc)
