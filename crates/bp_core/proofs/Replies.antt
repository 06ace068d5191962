-- What a reply says of the rooms.
use Rattle.std.proofs.Common.{◌≡◌, ℕ, ◌<◌, ◌≤◌, refl, ap, sym, ◌∙◌, arith, true, false, nat_lt, Option, Some, None, inl, inr, MatchOption}
use Rattle.std.proofs.lemmas.Bool.{cases_Bool, cond-true, cond-false, ltb-false, lt-ltb, le-ltb}
use Rattle.bp_types.specs.declared.stay.Span.{Span}
use Rattle.bp_types.specs.House.{Inn}
use Rattle.bp_types.specs.Spans.{first_short}
use Rattle.bp_core.specs.declared.line.Reply.{Reply}
use Rattle.bp_core.specs.declared.line.Reply.TheVariants.{TooLow, Done, BelowSold, GroupNoRoom}
use Rattle.bp_core.specs.Lines.{History, is_accepted, is_done, is_group_accepted, last_number}
use Rattle.bp_core.specs.Instance.{rate_of, sold_at, span_of, rooms_left_at}
use Rattle.bp_core.specs.Answer.{covered_reply, book_reply, sum_of, resize_reply, IsGroupReply}

accepted_covered : (vector sum : ℕ) (full : Option ℕ) → is_accepted (covered_reply vector sum full) ≡ true → full ≡ None
accepted_covered vector sum None h = refl
accepted_covered vector sum (Some night) h = absurd (cc)

-- a booking is accepted only where each night of the stay has a room
pub accepted_has_room : (h : Inn) (H : History) (stay : ℕ) → is_accepted (book_reply h H stay) ≡ true →
    first_short (rooms_left_at h H) (span_of h stay) 1 ≡ None
accepted_has_room h H stay accepted =
    let low : Reply = TooLow (last_number H) (sum_of h H stay) (rate_of h H stay) in
    let rest : Reply = covered_reply (last_number H) (sum_of h H stay) (first_short (rooms_left_at h H) (span_of h stay) 1) in
    elim (cases_Bool (nat_lt (rate_of h H stay) (sum_of h H stay))) [
      | inl below ↦ absurd (let e : false ≡ true = sym (ap is_accepted (cond-true _ low rest below)) ∙ accepted in (cc))
      | inr covered ↦ accepted_covered _ _ _ (sym (ap is_accepted (cond-false _ low rest covered)) ∙ accepted)
    ]

-- rooms are set only where as many are not sold
pub done_is_above_sold : (h : Inn) (H : History) (night rooms : ℕ) → is_done (resize_reply h H night rooms) ≡ true → sold_at h H night ≤ rooms
done_is_above_sold h H night rooms done =
    elim (cases_Bool (nat_lt rooms (sold_at h H night))) [
      | inl below ↦ absurd (let e : false ≡ true = sym (ap is_done (cond-true _ (BelowSold (sold_at h H night)) Done below)) ∙ done in (cc))
      | inr above ↦ ltb-false _ _ above
    ]

group_room : (full : Option ℕ) (P : Type 0) (reply : Reply) → MatchOption full P (λ night. reply ≡ GroupNoRoom night) → is_group_accepted reply ≡ true →
    full ≡ None
group_room None P reply replies accepted = refl
group_room (Some night) P reply replies accepted = absurd (let e : false ≡ true = sym (ap is_group_accepted replies) ∙ accepted in (cc))

-- a group is accepted only where each night of its span has the rooms
pub accepted_group_has_rooms : (h : Inn) (H : History) (span : Span) (rooms amount : ℕ) (reply : Reply) →
    IsGroupReply h H span rooms amount reply → is_group_accepted reply ≡ true → first_short (rooms_left_at h H) span rooms ≡ None
accepted_group_has_rooms h H span rooms amount reply replies accepted = group_room _ _ reply replies accepted

-- a rate below the sum is too low
pub too_low_reply : (h : Inn) (H : History) (stay vector sum rate : ℕ) → vector ≡ last_number H → sum ≡ sum_of h H stay → rate ≡ rate_of h H stay →
    rate < sum → TooLow vector sum rate ≡ book_reply h H stay
too_low_reply h H stay vector sum rate vector_is sum_is rate_is below =
    let e : nat_lt (rate_of h H stay) (sum_of h H stay) ≡ true = lt-ltb _ _ (below_along rate sum (rate_of h H stay) (sum_of h H stay) rate_is sum_is below) in
    ap (λ v. TooLow v sum rate) vector_is ∙ ap (λ s. TooLow (last_number H) s rate) sum_is ∙ ap (λ r. TooLow (last_number H) (sum_of h H stay) r) rate_is ∙
    sym (cond-true _ _ _ e)
  where
    below_along : (a b c d : ℕ) → a ≡ c → b ≡ d → a < b → c < d
    below_along a b c d e f g = omega arith

-- a covered price is accepted, unless a night is full
pub covered_is_reply : (h : Inn) (H : History) (stay vector sum rate : ℕ) (full : Option ℕ) → vector ≡ last_number H → sum ≡ sum_of h H stay →
    rate ≡ rate_of h H stay → sum ≤ rate → full ≡ first_short (rooms_left_at h H) (span_of h stay) 1 →
    covered_reply vector sum full ≡ book_reply h H stay
covered_is_reply h H stay vector sum rate full vector_is sum_is rate_is above full_is =
    let e : nat_lt (rate_of h H stay) (sum_of h H stay) ≡ false = le-ltb _ _ (above_along rate sum (rate_of h H stay) (sum_of h H stay) rate_is sum_is above) in
    ap (λ v. covered_reply v sum full) vector_is ∙ ap (λ s. covered_reply (last_number H) s full) sum_is ∙
    ap (λ f. covered_reply (last_number H) (sum_of h H stay) f) full_is ∙ sym (cond-false _ _ _ e)
  where
    above_along : (a b c d : ℕ) → a ≡ c → b ≡ d → b ≤ a → d ≤ c
    above_along a b c d e f g = omega arith
