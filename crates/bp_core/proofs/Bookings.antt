-- Booking calls of a caller, with one more.
use Rattle.std.proofs.Common.{
  ◌≡◌,
  ℕ,
  zero,
  suc,
  ◌+◌,
  ◌-◌,
  ◌<◌,
  ◌≤◌,
  refl,
  ap,
  sym,
  subst,
  ◌∙◌,
  arith,
  Bool,
  true,
  false,
  not,
  cond,
  ◌==◌,
  ◌&&◌,
  ◌||◌,
  IsTrue,
  List,
  [],
  ◌∷◌,
  ◌++◌,
  length,
  filter,
  count_by,
  slice_get,
  Option,
  Some,
  None,
  is_some,
  length-append,
  inl,
  inr,
}
use Rattle.std.specs.List.{list_any}
use Rattle.std.proofs.Math.Seq.{take-length}
use Rattle.std.proofs.lemmas.Bool.{cases_Bool, cases_lt, and_parts, eqb-true, or_cases}
use Rattle.std.proofs.lemmas.List.Elements.{filter-append}
use Rattle.std.proofs.lemmas.List.Sums.{length-filter, sum_by-cons}
use Rattle.std.proofs.lemmas.Option.{slice_get_within}
use Rattle.bp_types.specs.House.{Inn}
use Rattle.bp_types.specs.declared.command.Command.TheVariants.{Book, Cancel, Reforecast, Reprice, Resize, Group}
use Rattle.bp_types.specs.declared.limits.TheConstants.{CALLERS}
use Rattle.bp_core.specs.declared.line.Act.{Act}
use Rattle.bp_core.specs.declared.line.Act.TheVariants.{Do, Publish, Enrol, Leave}
use Rattle.bp_core.specs.declared.line.Reply.{Reply}
use Rattle.bp_core.specs.declared.line.Line.{Line}
use Rattle.bp_core.specs.declared.roll.Booking.{Booking}
use Rattle.bp_core.specs.Acting.{plain_line}
use Rattle.bp_core.specs.Lines.{
  History,
  is_book_by,
  is_command,
  commands,
  is_cancellation,
  is_cancel_of,
  is_cancelled,
  nth_book,
  is_accepted,
  booked_stay,
  command_of,
}
use Rattle.bp_core.specs.Callers.{greatest_caller, may_act, has_enrolled, has_left}
use Rattle.bp_core.specs.Answer.{IsReply, cancel_reply, given_up_reply}
use Rattle.bp_core.specs.Legal.{IsLegal}
use Rattle.bp_core.specs.Keeping.{AreBookingsOf, fate_by}
use Rattle.bp_core.proofs.Counts.{and_false, did_old, own_number, counted_at}
use Rattle.bp_core.proofs.Pushes.{any-push, count-push}
use Rattle.bp_core.proofs.Prefixes.{at_each_position}

-- who may act has a number
pub act_is_small : (h : Inn) (H : History) (caller : ℕ) → IsLegal h H → IsTrue (may_act H caller) → caller < CALLERS
act_is_small h H caller legal may =
    elim (or_cases (caller == 0) (has_enrolled H caller && not (has_left H caller)) may) [
      | inl opener ↦ omega (arith, eqb-true _ _ opener)
      | inr enrolled ↦ let small : caller ≤ greatest_caller = (counted_at h H legal).numbered caller (and_parts _ _ enrolled).0 in omega (arith, small)
    ]

-- every booking call is a command
pub books_are_commands : (H : History) (caller : ℕ) → count_by (is_book_by caller) H ≤ commands H
books_are_commands [] caller = omega arith
books_are_commands (x ∷ H) caller =
    omega (
      arith,
      books_are_commands H caller,
      sum_by-cons (λ y. cond (is_book_by caller y) 1 0) x H,
      sum_by-cons (λ y. cond (is_command y) 1 0) x H,
      one_line (x.entry.caller == caller) x.entry.act,
    )
  where
    one_line : (b : Bool) (act : Act) → cond (b && is_some (booked_stay act)) 1 0 ≤ cond (is_some (command_of act)) 1 0
    one_line true (Do (Book stay)) = omega arith
    one_line true (Do (Cancel nth)) = omega arith
    one_line true (Do (Reforecast stay count)) = omega arith
    one_line true (Do (Reprice stay rate)) = omega arith
    one_line true (Do (Resize night rooms)) = omega arith
    one_line true (Do (Group span rooms amount)) = omega arith
    one_line true (Publish position) = omega arith
    one_line true Enrol = omega arith
    one_line true Leave = omega arith
    one_line false act = omega arith

cancelled_is_booked : (H : History) (caller nth : ℕ) (o : Option Line) (again : Bool) → nth_book H caller nth ≡ o →
    is_cancelled (given_up_reply o again) ≡ true → nth ≤ count_by (is_book_by caller) H
cancelled_is_booked H caller nth None again is done = absurd (cc)
cancelled_is_booked H caller nth (Some y) again is done =
    let within : nth - 1 < length (filter (is_book_by caller) H) = slice_get_within (filter (is_book_by caller) H) (nth - 1) y is in
    omega (arith, within, length-filter (is_book_by caller) H)

-- a line that gives a booking up names one that was made
gives_up_made : (h : Inn) (H : History) (by : ℕ) (act : Act) (reply : Reply) (caller nth : ℕ) → IsReply h H by act reply →
    ((by == caller) && (is_cancel_of nth act && is_cancelled reply)) ≡ true → nth ≤ count_by (is_book_by caller) H
gives_up_made h H by (Do (Cancel n)) reply caller nth replies gives =
    let parts = and_parts _ _ gives in
    let both = and_parts _ _ parts.1 in
    let same_caller : by ≡ caller = eqb-true _ _ parts.0 in
    let same_nth : n ≡ nth = eqb-true _ _ both.0 in
    let done : is_cancelled (cancel_reply H by n) ≡ true = sym (ap is_cancelled replies) ∙ both.1 in
    let here = cancelled_is_booked H by n (nth_book H by n) _ refl done in
    omega (arith, here, same_nth, ap (λ c. count_by (is_book_by c) H) same_caller)
gives_up_made h H by (Do (Book stay)) reply caller nth replies gives = absurd (let e = sym (and_false (by == caller)) ∙ gives in (cc))
gives_up_made h H by (Do (Reforecast stay count)) reply caller nth replies gives = absurd (let e = sym (and_false (by == caller)) ∙ gives in (cc))
gives_up_made h H by (Do (Reprice stay rate)) reply caller nth replies gives = absurd (let e = sym (and_false (by == caller)) ∙ gives in (cc))
gives_up_made h H by (Do (Resize night rooms)) reply caller nth replies gives = absurd (let e = sym (and_false (by == caller)) ∙ gives in (cc))
gives_up_made h H by (Do (Group span rooms amount)) reply caller nth replies gives = absurd (let e = sym (and_false (by == caller)) ∙ gives in (cc))
gives_up_made h H by (Publish position) reply caller nth replies gives = absurd (let e = sym (and_false (by == caller)) ∙ gives in (cc))
gives_up_made h H by Enrol reply caller nth replies gives = absurd (let e = sym (and_false (by == caller)) ∙ gives in (cc))
gives_up_made h H by Leave reply caller nth replies gives = absurd (let e = sym (and_false (by == caller)) ∙ gives in (cc))

-- no booking is given up before it is made
pub given_up_is_made : (h : Inn) (H : History) → IsLegal h H → (caller nth : ℕ) → list_any (is_cancellation caller nth) H ≡ true →
    nth ≤ count_by (is_book_by caller) H
given_up_is_made h H legal =
    let P : History → Type 0 = λ G. (caller nth : ℕ) → list_any (is_cancellation caller nth) G ≡ true → nth ≤ count_by (is_book_by caller) G in
    subst P (take-length H) (at_each_position h P (λ caller nth given. absurd (cc)) (λ G x before line. λ caller nth given.
    elim (or_cases (list_any (is_cancellation caller nth) G) (is_cancellation caller nth x) (sym (any-push (is_cancellation caller nth) G x) ∙ given)) [
      | inl was ↦ omega (arith, before caller nth was, count-push (is_book_by caller) G x)
      | inr now ↦ omega (arith, gives_up_made h G x.entry.caller x.entry.act x.entry.reply caller nth line.reply now, count-push (is_book_by caller) G x)
    ]) H legal (length H) (omega arith))

get_old : {X : Type 0} (xs : List X) (y x : X) (k : ℕ) → k < length xs → slice_get (xs ++ y ∷ []) k ≡ Some x → slice_get xs k ≡ Some x
get_old [] y x k within is = absurd (omega arith)
get_old (z ∷ xs) y x zero within is = is
get_old (z ∷ xs) y x (suc k) within is = get_old xs y x k (omega arith) is

get_more : {X : Type 0} (xs : List X) (y x : X) (k : ℕ) → slice_get xs k ≡ Some x → slice_get (xs ++ y ∷ []) k ≡ Some x
get_more [] y x k is = absurd (cc)
get_more (z ∷ xs) y x zero is = is
get_more (z ∷ xs) y x (suc k) is = get_more xs y x k is

get_new : {X : Type 0} (xs : List X) (y : X) → slice_get (xs ++ y ∷ []) (length xs) ≡ Some y
get_new [] y = refl
get_new (z ∷ xs) y = get_new xs y

-- the booking calls of a caller, with one more of it
pub bookings_more : (h : Inn) (H : History) (caller stay : ℕ) (reply : Reply) (bs : List Booking) (b : Booking) → IsLegal h H → AreBookingsOf H caller bs →
    b.stay ≡ stay → b.fate ≡ fate_by (is_accepted reply) false →
    AreBookingsOf (H ++ plain_line caller (Do (Book stay)) reply ∷ []) caller (bs ++ b ∷ [])
bookings_more h H caller stay reply bs b legal were stay_is fate_is =
    let x : Line = plain_line caller (Do (Book stay)) reply in
    let books : is_book_by caller x ≡ true = ap (λ t. t && true) (own_number caller) in
    let lines : filter (is_book_by caller) (H ++ x ∷ []) ≡ filter (is_book_by caller) H ++ x ∷ [] = filter-append (is_book_by caller) H (x ∷ []) ∙
    ap (λ l. filter (is_book_by caller) H ++ l) (rw books refl) in
    let size : length (filter (is_book_by caller) H) ≡ length bs = omega (arith, length-filter (is_book_by caller) H, were.as_many) in
    let none : (nth : ℕ) → is_cancellation caller nth x ≡ false = λ nth. and_false (caller == caller) in
    let same : (nth : ℕ) → list_any (is_cancellation caller nth) (H ++ x ∷ []) ≡ list_any (is_cancellation caller nth) H =
    λ nth. any-push (is_cancellation caller nth) H x ∙ ap (λ t. list_any (is_cancellation caller nth) H || t) (none nth) ∙
    did_old (list_any (is_cancellation caller nth) H) in
    record {
      as_many = (let z = ap (λ (t : Bool). cond {A = ℕ} t 1 0) books in
          omega (arith, length-append bs (b ∷ []), were.as_many, count-push (is_book_by caller) H x, z));
      each = λ k c is. elim (cases_lt k (length bs)) [
        | inl old ↦
            let was = were.each k c (get_old bs b c k old is) in
            record {
              line = was.line;
              is_nth = ap (λ l. slice_get l (k + 1 - 1)) lines ∙ get_more (filter (is_book_by caller) H) x was.line (k + 1 - 1) was.is_nth;
              stay = was.stay;
              fate = rw (same (k + 1)) was.fate;
            }
        | inr new ↦
            let within : k < length (bs ++ b ∷ []) = slice_get_within (bs ++ b ∷ []) k c is in
            let at : k ≡ length bs = omega (arith, within, length-append bs (b ∷ [])) in
            let here : Some b ≡ Some c = sym (get_new bs b) ∙ sym (ap (slice_get (bs ++ b ∷ [])) at) ∙ is in
            let e : b ≡ c = (cc) in
            let place : k + 1 - 1 ≡ length (filter (is_book_by caller) H) = omega (arith, at, size) in
            let fresh : list_any (is_cancellation caller (k + 1)) H ≡ false = elim (cases_Bool (list_any (is_cancellation caller (k + 1)) H)) [
              | inl given ↦ absurd (omega (arith, given_up_is_made h H legal caller (k + 1) given, were.as_many, at))
              | inr never ↦ never
            ] in
            record {
              line = x;
              is_nth = ap (λ l. slice_get l (k + 1 - 1)) lines ∙ ap (slice_get (filter (is_book_by caller) H ++ x ∷ [])) place ∙
                  get_new (filter (is_book_by caller) H) x;
              stay = ap {B = Option ℕ} Some (sym stay_is ∙ ap (λ (d : Booking). d.stay) e);
              fate = ap (λ (d : Booking). d.fate) (sym e) ∙ fate_is ∙ ap (fate_by (is_accepted reply)) (sym (same (k + 1) ∙ fresh));
            }
      ];
    }
