-- A booking that was given up was made and accepted before.
use Rattle.std.proofs.Common.{
  ◌≡◌,
  ℕ,
  zero,
  suc,
  not,
  ◌+◌,
  ◌-◌,
  ◌<◌,
  ◌≤◌,
  ◌==◌,
  Bool,
  true,
  false,
  cond,
  ◌&&◌,
  ◌||◌,
  IsTrue,
  List,
  [],
  ◌∷◌,
  ◌++◌,
  length,
  filter,
  slice_get,
  Option,
  Some,
  None,
  refl,
  sym,
  ap,
  subst,
  ◌∙◌,
  arith,
  inl,
  inr,
}
use Rattle.std.proofs.Math.Seq.{take-length}
use Rattle.std.proofs.lemmas.Bool.{cases_Bool, and_parts, eqb-true, leb-true, or_cases}
use Rattle.std.proofs.lemmas.List.Elements.{filter-append}
use Rattle.std.proofs.lemmas.List.Sums.{length-filter}
use Rattle.std.proofs.lemmas.Option.{slice_get_within}
use Rattle.bp_types.specs.House.{Inn}
use Rattle.bp_types.specs.declared.command.Command.TheVariants.{Book, Cancel, Reforecast, Reprice, Resize, Group}
use Rattle.bp_core.specs.declared.line.Act.{Act}
use Rattle.bp_core.specs.declared.line.Act.TheVariants.{Do, Publish, Enrol, Leave}
use Rattle.bp_core.specs.declared.line.Line.{Line}
use Rattle.bp_core.specs.declared.line.Reply.TheVariants.{Cancelled, NotBooked, AlreadyCancelled}
use Rattle.bp_core.specs.declared.roll.Booking.{Booking}
use Rattle.bp_core.specs.Answer.{IsReply, cancel_reply, given_up_reply}
use Rattle.bp_core.specs.Callers.{greatest_caller, may_act, may_log, is_enrol_by, has_enrolled, has_left}
use Rattle.bp_core.specs.Keeping.{AreBookingsOf, IsBookingOf, fate_by}
use Rattle.bp_core.specs.Legal.{IsLegal, IsLegalLine, is_in_range}
use Rattle.bp_core.specs.Lines.{History, is_by, is_book_by, is_accepted, is_cancelled, is_cancel_of, is_cancellation, has_given_up, nth_book}
use Rattle.bp_core.specs.Roll.{was_given_up, is_over}
use Rattle.bp_core.proofs.Counts.{counted_at}
use Rattle.bp_core.proofs.Prefixes.{at_each_position}
use Rattle.bp_core.proofs.Pushes.{any-push}

-- the nth booking of a caller was made and accepted
record WasAccepted (H : History) (caller nth : ℕ) : Type 0 where
  pub from_one : 1 ≤ nth
  pub known : ((caller == 0) || has_enrolled H caller) ≡ true
  pub line : Line
  pub is_nth : nth_book H caller nth ≡ Some line
  pub accepted : is_accepted line.entry.reply ≡ true

get_in_front : (xs ys : History) (k : ℕ) (y : Line) → slice_get xs k ≡ Some y → slice_get (xs ++ ys) k ≡ Some y
get_in_front [] ys k y is = absurd (cc)
get_in_front (x ∷ xs) ys zero y is = is
get_in_front (x ∷ xs) ys (suc k) y is = get_in_front xs ys k y is

or_more : (a b c : Bool) → (a || b) ≡ true → (a || (b || c)) ≡ true
or_more true b c e = refl
or_more false true c e = refl
or_more false false c e = absurd (cc)

stays_accepted : (H : History) (x : Line) (caller nth : ℕ) → WasAccepted H caller nth → WasAccepted (H ++ x ∷ []) caller nth
stays_accepted H x caller nth was = record {
  from_one = was.from_one;
  known = ap (λ b. (caller == 0) || b) (any-push (is_enrol_by caller) H x) ∙ or_more (caller == 0) (has_enrolled H caller) (is_enrol_by caller x) was.known;
  line = was.line;
  is_nth = ap (λ l. slice_get l (nth - 1)) (filter-append (is_book_by caller) H (x ∷ [])) ∙
      get_in_front (filter (is_book_by caller) H) (filter (is_book_by caller) (x ∷ [])) (nth - 1) was.line was.is_nth;
  accepted = was.accepted;
}

-- a Cancel is made of a booking that was accepted
given_up_accepted : (o : Option Line) (again : Bool) → is_cancelled (given_up_reply o again) ≡ true →
    (y : Line) × (o ≡ Some y) × (is_accepted y.entry.reply ≡ true)
given_up_accepted None again is = absurd (cc)
given_up_accepted (Some y) again is = go (is_accepted y.entry.reply) refl is
  where
    go : (b : Bool) → is_accepted y.entry.reply ≡ b → is_cancelled (cond b (cond again AlreadyCancelled Cancelled) NotBooked) ≡ true →
        (z : Line) × (Some y ≡ Some z) × (is_accepted z.entry.reply ≡ true)
    go true e t = (y, refl, e)
    go false e t = absurd (cc)

acts_known : (z e l : Bool) → (z || (e && not l)) ≡ true → (z || e) ≡ true
acts_known true e l may = refl
acts_known false true l may = refl
acts_known false false l may = absurd (cc)

given_up_now : (h : Inn) (H : History) (x : Line) (caller nth : ℕ) → IsLegalLine h H x → is_cancellation caller nth x ≡ true → WasAccepted H caller nth
given_up_now h H x caller nth legal is =
    let parts = and_parts (is_by caller x) _ is in
    let two = and_parts _ _ parts.1 in
    by_act x.entry.act refl two.0 (eqb-true _ _ parts.0) two.1
  where
    by_act : (a : Act) → x.entry.act ≡ a → is_cancel_of nth x.entry.act ≡ true → x.entry.caller ≡ caller → is_cancelled x.entry.reply ≡ true →
        WasAccepted H caller nth
    by_act (Do (Cancel n)) act cancels by done =
        let same : n ≡ nth = eqb-true n nth (subst (λ (a : Act). is_cancel_of nth a ≡ true) act cancels) in
        let at : x.entry.act ≡ Do (Cancel nth) = act ∙ ap (λ k. Do (Cancel k)) same in
        let reply : x.entry.reply ≡ cancel_reply H caller nth =
        subst (λ k. x.entry.reply ≡ cancel_reply H k nth) by (subst (λ (a : Act). IsReply h H x.entry.caller a x.entry.reply) at legal.reply) in
        let made = given_up_accepted (nth_book H caller nth) _ (sym (ap is_cancelled reply) ∙ done) in
        let range = subst (λ (a : Act). IsTrue (is_in_range h a)) at legal.range in
        let may : may_act H caller ≡ true = subst (λ k. may_act H k ≡ true) by (subst (λ (a : Act). IsTrue (may_log H x.entry.caller a)) at legal.caller) in
        record {
          from_one = leb-true _ _ (and_parts _ _ range).0;
          known = acts_known (caller == 0) (has_enrolled H caller) (has_left H caller) may;
          line = made.0;
          is_nth = made.1;
          accepted = made.2;
        }
    by_act (Do (Book stay)) act cancels by done = absurd (let e = subst (λ (a : Act). is_cancel_of nth a ≡ true) act cancels in cc)
    by_act (Do (Reforecast stay count)) act cancels by done = absurd (let e = subst (λ (a : Act). is_cancel_of nth a ≡ true) act cancels in cc)
    by_act (Do (Reprice stay rate)) act cancels by done = absurd (let e = subst (λ (a : Act). is_cancel_of nth a ≡ true) act cancels in cc)
    by_act (Do (Resize night rooms)) act cancels by done = absurd (let e = subst (λ (a : Act). is_cancel_of nth a ≡ true) act cancels in cc)
    by_act (Do (Group span rooms amount)) act cancels by done = absurd (let e = subst (λ (a : Act). is_cancel_of nth a ≡ true) act cancels in cc)
    by_act (Publish position) act cancels by done = absurd (let e = subst (λ (a : Act). is_cancel_of nth a ≡ true) act cancels in cc)
    by_act Enrol act cancels by done = absurd (let e = subst (λ (a : Act). is_cancel_of nth a ≡ true) act cancels in cc)
    by_act Leave act cancels by done = absurd (let e = subst (λ (a : Act). is_cancel_of nth a ≡ true) act cancels in cc)

-- so it is in a legal history
was_accepted : (h : Inn) (H : History) (caller nth : ℕ) → IsLegal h H → has_given_up H caller nth ≡ true → WasAccepted H caller nth
was_accepted h H caller nth legal =
    let P : History → Type 0 = λ G. has_given_up G caller nth ≡ true → WasAccepted G caller nth in
    subst P (take-length H) (at_each_position h P (λ none. absurd (cc)) (λ G x before line. λ some.
    elim (or_cases (has_given_up G caller nth) (is_cancellation caller nth x) (sym (any-push (is_cancellation caller nth) G x) ∙ some)) [
      | inl early ↦ stays_accepted G x caller nth (before early)
      | inr now ↦ stays_accepted G x caller nth (given_up_now h G x caller nth line now)
    ]) H legal (length H) (omega arith))

-- nobody gives up a booking numbered 0
pub none_before_one : (h : Inn) (H : History) (caller nth : ℕ) → IsLegal h H → nth ≡ 0 → false ≡ has_given_up H caller nth
none_before_one h H caller nth legal zeroth =
    elim (cases_Bool (has_given_up H caller nth)) [
      | inr none ↦ sym none
      | inl some ↦ absurd (let w = was_accepted h H caller nth legal some in omega (arith, zeroth, w.from_one))
    ]

-- nor does a caller past the last one
pub none_past_callers : (h : Inn) (H : History) (caller nth : ℕ) → IsLegal h H → greatest_caller < caller → false ≡ has_given_up H caller nth
none_past_callers h H caller nth legal past =
    elim (cases_Bool (has_given_up H caller nth)) [
      | inr none ↦ sym none
      | inl some ↦ absurd (let w = was_accepted h H caller nth legal some in elim (or_cases (caller == 0) (has_enrolled H caller) w.known) [
        | inl opener ↦ (let e = eqb-true caller 0 opener in omega (arith, e, past))
        | inr enrolled ↦ (let small = (counted_at h H legal).numbered caller enrolled in omega (arith, past, small))
      ])
    ]

over_by : (accepted given_up : Bool) → (given_up ≡ true → accepted ≡ true) → is_over (fate_by accepted given_up) ≡ given_up
over_by false false only = refl
over_by false true only = absurd (let e = only refl in cc)
over_by true false only = refl
over_by true true only = refl

past_none : (xs : List Booking) (k : ℕ) → slice_get xs k ≡ None → length xs ≤ k
past_none [] k none = omega arith
past_none (x ∷ xs) zero none = absurd (cc)
past_none (x ∷ xs) (suc k) none = let le = past_none xs k none in omega (arith, le)

-- what is kept of a booking says whether it was given up
pub kept_says : (h : Inn) (H : History) (caller nth : ℕ) (bs : List Booking) → IsLegal h H → 1 ≤ nth → AreBookingsOf H caller bs →
    was_given_up (slice_get bs (nth - 1)) ≡ has_given_up H caller nth
kept_says h H caller nth bs legal from_one are = go (slice_get bs (nth - 1)) refl
  where
    go : (o : Option Booking) → slice_get bs (nth - 1) ≡ o → was_given_up o ≡ has_given_up H caller nth
    go (Some b) is =
        let place : nth - 1 + 1 ≡ nth = omega (arith, from_one) in
        let kept = subst (λ n. IsBookingOf H caller n b) place (are.each (nth - 1) b is) in
        let only : has_given_up H caller nth ≡ true → is_accepted kept.line.entry.reply ≡ true = λ some.
        let w = was_accepted h H caller nth legal some in
        let e : Some kept.line ≡ Some w.line = sym kept.is_nth ∙ w.is_nth in
        let f : kept.line ≡ w.line = cc in
        ap (λ (y : Line). is_accepted y.entry.reply) f ∙ w.accepted in
        ap is_over kept.fate ∙ over_by (is_accepted kept.line.entry.reply) (has_given_up H caller nth) only
    go None is =
        elim (cases_Bool (has_given_up H caller nth)) [
          | inr none ↦ sym none
          | inl some ↦ absurd (
              let w = was_accepted h H caller nth legal some in
              let short = past_none bs (nth - 1) is in
              let within = slice_get_within (filter (is_book_by caller) H) (nth - 1) w.line w.is_nth in
              omega (arith, short, within, are.as_many, length-filter (is_book_by caller) H))
        ]
