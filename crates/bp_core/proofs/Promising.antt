-- What the desk promises of every legal history.
use Rattle.std.proofs.Common.{
  ◌≡◌,
  ℕ,
  ◌-◌,
  ◌≤◌,
  ◌==◌,
  Bool,
  true,
  false,
  cond,
  nat_lt,
  nat_le,
  ◌&&◌,
  ◌||◌,
  IsTrue,
  length,
  take,
  drop,
  count_by,
  Option,
  Some,
  None,
  MatchOption,
  refl,
  sym,
  ap,
  subst,
  ◌∙◌,
  arith,
  inl,
  inr,
}
use Rattle.std.specs.Arc.{arc_value}
use Rattle.std.proofs.lemmas.Bool.{and_parts, leb-true, ltb-false, le-ltb, or_cases, eqb-true}
use Rattle.std.proofs.lemmas.List.{length-take-le}
use Rattle.bp_types.specs.declared.stay.Span.{Span}
use Rattle.bp_types.specs.House.{Inn}
use Rattle.bp_types.specs.Laws.{CertificateIsOptimal}
use Rattle.bp_types.specs.Optimum.{IsOptimum}
use Rattle.bp_types.proofs.Firsts.{find-range_none, none_passes}
use Rattle.bp_types.specs.Spans.{first_short}
use Rattle.bp_core.specs.declared.line.Act.{Act}
use Rattle.bp_core.specs.declared.line.Reply.TheVariants.{TooLow}
use Rattle.bp_core.specs.declared.call.Call.TheVariants.{Do as DoCall, Publish as PublishCall, Enrol as EnrolCall, Leave as LeaveCall}
use Rattle.bp_core.specs.declared.call.Answer.TheVariants.{Logged, Superseded, PublicationsFull}
use Rattle.bp_core.specs.Lines.{History, line_at, is_accepted, vectors, last_number, last_position}
use Rattle.bp_core.specs.Instance.{span_of, rate_of, rooms_left_at, instance_of}
use Rattle.bp_core.specs.Changes.{is_change, changes_between}
use Rattle.bp_core.specs.Answer.{sum_of, covered_reply, book_reply, IsReply}
use Rattle.bp_core.specs.Legal.{IsCertified, is_newer}
use Rattle.bp_core.specs.Acting.{IsLogged, IsRefused, refuse_if}
use Rattle.bp_core.specs.Headline.{HasRooms, PaysPrices, AcceptedExactly, VectorsAreOptimal, VectorsAreNewer, HasLeast, LeastIsKept}
use Rattle.bp_core.proofs.Prefixes.{take_take}
use Rattle.bp_core.proofs.Vectors.{position_so_far}

-- no night of the span lacks a room, where none is found
rooms_where_none : (h : Inn) (H : History) (span : Span) → first_short (rooms_left_at h H) span 1 ≡ None → HasRooms h H span
rooms_where_none h H span none = λ n from to.
    ltb-false (rooms_left_at h H n) 1 (none_passes (λ k. nat_lt (rooms_left_at h H k) 1) span.from (span.to - span.from) none n from (omega (arith, from, to)))

none_where_rooms : (h : Inn) (H : History) (span : Span) → HasRooms h H span → first_short (rooms_left_at h H) span 1 ≡ None
none_where_rooms h H span rooms =
    find-range_none (λ k. nat_lt (rooms_left_at h H k) 1) span.from (span.to - span.from)
    (λ k from to. le-ltb (rooms_left_at h H k) 1 (rooms k from (omega (arith, from, to))))

covered_accepts : (vector sum : ℕ) (o : Option ℕ) → is_accepted (covered_reply vector sum o) ≡ true → o ≡ None
covered_accepts vector sum None is = refl
covered_accepts vector sum (Some night) is = absurd (cc)

accepted : (h : Inn) (H : History) (stay : ℕ) → is_accepted (book_reply h H stay) ≡ true → PaysPrices h H stay × HasRooms h H (span_of h stay)
accepted h H stay is = go (nat_lt (rate_of h H stay) (sum_of h H stay)) refl is
  where
    go : (b : Bool) → nat_lt (rate_of h H stay) (sum_of h H stay) ≡ b →
        is_accepted (cond b (TooLow (last_number H) (sum_of h H stay) (rate_of h H stay))
        (covered_reply (last_number H) (sum_of h H stay) (first_short (rooms_left_at h H) (span_of h stay) 1))) ≡ true →
        PaysPrices h H stay × HasRooms h H (span_of h stay)
    go true low e = absurd (cc)
    go false pays e = (ltb-false (rate_of h H stay) (sum_of h H stay) pays, rooms_where_none h H (span_of h stay) (covered_accepts _ _ _ e))

accepts : (h : Inn) (H : History) (stay : ℕ) → PaysPrices h H stay × HasRooms h H (span_of h stay) → is_accepted (book_reply h H stay) ≡ true
accepts h H stay both =
    let pays : nat_lt (rate_of h H stay) (sum_of h H stay) ≡ false = le-ltb (rate_of h H stay) (sum_of h H stay) both.0 in
    let none = none_where_rooms h H (span_of h stay) both.1 in
    rw (pays, none) refl

pub accepted_exactly : AcceptedExactly
accepted_exactly h H i stay legal within is =
    let G : History = take i H in
    let reply : (line_at H i).entry.reply ≡ book_reply h G stay =
    subst (λ (a : Act). IsReply h G (line_at H i).entry.caller a (line_at H i).entry.reply) is (legal.lines i within).reply in
    (λ was. accepted h G stay (sym (ap is_accepted reply) ∙ was), λ both. ap is_accepted reply ∙ accepts h G stay both)

pub vectors_are_optimal : CertificateIsOptimal → VectorsAreOptimal
vectors_are_optimal optimal h H i position legal within is =
    let G : History = take i H in
    let line = legal.lines i within in
    let c = subst (λ (a : Act). IsCertified h G a (line_at H i).certificate) is line.certificate in
    let so_far : position ≤ i =
    (let le = position_so_far h G (line_at H i) position line is in omega (arith, le, length-take-le i H (omega (arith, within)))) in
    record {
      claim = c.0;
      certificate = c.1;
      so_far = so_far;
      optimum = subst (λ K. IsOptimum (instance_of h K) c.0.value) (take_take H position i so_far) (optimal _ _ _ _ c.2);
    }

newer_by_one : (n position changes : ℕ) → 1 ≤ n → IsTrue ((n == 0) || (nat_le position n && nat_le 1 changes)) → 1 ≤ changes
newer_by_one n position changes some newer = elim (or_cases (n == 0) (nat_le position n && nat_le 1 changes) newer) [
  | inl none ↦ absurd (let e = eqb-true n 0 none in omega (arith, e, some))
  | inr both ↦ leb-true _ _ (and_parts _ _ both).1
]

pub vectors_are_newer : VectorsAreNewer
vectors_are_newer h H i position legal later within is =
    let G : History = take i H in
    let line = legal.lines i within in
    let size = length-take-le i H (omega (arith, within)) in
    let newer = subst (λ (a : Act). IsTrue (is_newer G a)) is line.position in
    let le = position_so_far h G (line_at H i) position line is in
    let some = newer_by_one (length G) position (changes_between G (last_position G) position) (omega (arith, size, later)) newer in
    let same : changes_between H (last_position G) position ≡ changes_between G (last_position G) position =
    ap (λ K. count_by is_change (drop (last_position G) K)) (sym (take_take H position i (omega (arith, le, size)))) in
    omega (arith, same, some)

pub least_is_kept : LeastIsKept
least_is_kept old new caller (PublishCall board least) reply is = go (nat_lt changes least) refl is
  where
    changes : ℕ
    changes = changes_between old.history (last_position old.history) (arc_value board).position

    go : (b : Bool) → nat_lt changes least ≡ b →
        MatchOption (cond b (Some (Superseded (last_position old.history) changes))
        (refuse_if (vectors old.history == old.house.limits.publications) PublicationsFull))
        (IsLogged old new caller (PublishCall board least) (Logged reply)) (IsRefused old new (Logged reply)) → HasLeast old.history (PublishCall board least)
    go true few refused = absurd (let e = refused.0 in cc)
    go false enough either = ltb-false changes least enough
least_is_kept old new caller (DoCall command quoted) reply is = tt
least_is_kept old new caller EnrolCall reply is = tt
least_is_kept old new caller LeaveCall reply is = tt
