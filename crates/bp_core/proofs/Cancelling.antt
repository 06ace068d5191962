-- A booking is given up, or is not.
use Rattle.std.proofs.Common.{
  ◌≡◌,
  ℕ,
  zero,
  suc,
  ◌+◌,
  ◌-◌,
  ◌<◌,
  ◌≤◌,
  refl,
  ap,
  sym,
  subst,
  ◌∙◌,
  arith,
  Bool,
  true,
  false,
  not,
  cond,
  ◌==◌,
  ◌&&◌,
  ◌||◌,
  IsTrue,
  List,
  [],
  ◌∷◌,
  ◌++◌,
  length,
  take,
  drop,
  filter,
  count_by,
  get_or,
  set,
  slice_get,
  Option,
  Some,
  None,
  unwrap_or,
  length-set,
  get_or-set_same,
  get_or-set_other,
  inl,
  inr,
}
use Rattle.std.specs.List.{list_any}
use Rattle.std.specs.Option.{option_map_or}
use Rattle.std.proofs.lemmas.Bool.{cases_Bool, cases_eq, cases_lt, and_parts, and_from, cond-true, cond-false, eqb-true, ltb-true, ne_eqb}
use Rattle.std.proofs.lemmas.List.{take-append-drop}
use Rattle.std.proofs.lemmas.List.Folds.{list_any-append}
use Rattle.std.proofs.lemmas.List.Sums.{sum_by-cons, sum_by-take-le, length-filter}
use Rattle.std.proofs.lemmas.Option.{slice_get_within, slice_get_past, slice_get-get_or, get_or_from_slice_get}
use Rattle.bp_types.specs.declared.command.Command.TheVariants.{Book, Cancel, Reforecast, Reprice, Resize, Group}
use Rattle.bp_types.specs.Program.{covers}
use Rattle.bp_types.specs.House.{Inn}
use Rattle.bp_types.proofs.SumLemmas.{sum_below-at}
use Rattle.bp_types.specs.declared.limits.TheConstants.{CALLERS}
use Rattle.bp_ledger.specs.Inventory.{Inventory, released}
use Rattle.bp_core.specs.declared.line.Act.{Act}
use Rattle.bp_core.specs.declared.line.Act.TheVariants.{Do, Publish, Enrol, Leave}
use Rattle.bp_core.specs.declared.roll.Booking.{Booking}
use Rattle.bp_core.specs.declared.roll.Fate.TheVariants.{Held, Refused, GivenUp}
use Rattle.bp_core.specs.declared.line.Reply.{Reply}
use Rattle.bp_core.specs.declared.line.Reply.TheVariants.{Cancelled, NotBooked, AlreadyCancelled}
use Rattle.bp_core.specs.declared.line.Line.{Line}
use Rattle.bp_core.specs.Acting.{plain_line}
use Rattle.bp_core.specs.Lines.{History, line_at, is_book, is_book_by, is_accepted, is_cancellation, is_cancelled, booked_stay, nth_book, commands}
use Rattle.bp_core.specs.Callers.{may_log}
use Rattle.bp_core.specs.Instance.{book_number, is_given_up, stay_booked, holds_room, rooms_of_group, sold_at, span_of}
use Rattle.bp_core.specs.Answer.{cancel_reply, given_up_reply}
use Rattle.bp_core.specs.Changes.{span_booked}
use Rattle.bp_core.specs.Legal.{IsLegal, IsLegalLine, is_in_range}
use Rattle.bp_core.specs.Held.{IsHeld}
use Rattle.bp_core.specs.Log.{LogView}
use Rattle.bp_core.specs.Roll.{RollView, bookings_of, with_bookings}
use Rattle.bp_core.specs.Keeping.{AreInStep, inventory_of, AreBookingsOf, IsBookingOf, fate_by}
use Rattle.bp_core.proofs.Counts.{and_false, did_true, own_number, other_number}
use Rattle.bp_core.proofs.Cases.{cases_Option}
use Rattle.bp_core.proofs.Prefixes.{take_take, take-more}
use Rattle.bp_core.proofs.Pushes.{count-push, any-push, sum-push}
use Rattle.bp_core.proofs.Sold.{held_at, holds_room-old, held_at-push_sum}
use Rattle.bp_core.proofs.Setting.{not_full_allowed}
use Rattle.bp_core.proofs.Effects.{numbers_same, opened, standing_kept, forecast_kept, bookings_kept, booking_kept, nth_book_kept}
use Rattle.bp_core.proofs.Stocking.{sold_moves, rooms_stay}
use Rattle.bp_core.proofs.InStepMore.{Follows}
use Rattle.bp_core.proofs.Quiet.{IsQuiet, follows_quiet, quiet_forecasts, quiet_rates}

pub cancel_is_legal : (h : Inn) (H : History) (caller nth : ℕ) (reply : Reply) → IsLegal h H → IsTrue (may_log H caller (Do (Cancel nth))) →
    IsTrue (is_in_range h (Do (Cancel nth))) → ((commands H ≡ h.limits.entries) → ⊥) →
    reply ≡ cancel_reply H caller nth → IsLegalLine h H (plain_line caller (Do (Cancel nth)) reply)
cancel_is_legal h H caller nth reply legal may range not_full is = record {
  opening = opened h H (plain_line caller (Do (Cancel nth)) reply) legal;
  caller = may;
  range = range;
  limit = not_full_allowed h H legal not_full;
  behind = refl;
  position = refl;
  certificate = refl;
  reply = is;
}

refused_is_quiet : (caller nth : ℕ) (reply : Reply) → is_cancelled reply ≡ false → IsQuiet (plain_line caller (Do (Cancel nth)) NotBooked)
refused_is_quiet caller nth reply refused =
    record {
      no_book = refl;
      no_resize = λ n. refl;
      no_cancel = λ k m. ap (λ b. (caller == k) && b) (and_false (nth == m)) ∙ and_false (caller == k);
      no_group = λ n. refl;
    }

again_is_quiet : (caller nth : ℕ) → IsQuiet (plain_line caller (Do (Cancel nth)) AlreadyCancelled)
again_is_quiet caller nth =
    record {
      no_book = refl;
      no_resize = λ n. refl;
      no_cancel = λ k m. ap (λ b. (caller == k) && b) (and_false (nth == m)) ∙ and_false (caller == k);
      no_group = λ n. refl;
    }

pub not_booked_follows : (h : Inn) (log : LogView) (roll : RollView) (inventory : Inventory) (forecasts rates : List ℕ) (caller nth : ℕ) →
    AreInStep h log roll inventory forecasts rates →
    Follows h log.lines roll roll inventory forecasts rates (plain_line caller (Do (Cancel nth)) NotBooked)
not_booked_follows h log roll inventory forecasts rates caller nth kept =
    let x : Line = plain_line caller (Do (Cancel nth)) NotBooked in
    let quiet = refused_is_quiet caller nth NotBooked refl in
    follows_quiet h log roll inventory forecasts forecasts rates rates x kept quiet refl refl (kept.forecasts_are ∙
    quiet_forecasts h log.lines x quiet (λ j. refl)) (kept.rates_are ∙ quiet_rates h log.lines x (λ j. refl))

pub again_follows : (h : Inn) (log : LogView) (roll : RollView) (inventory : Inventory) (forecasts rates : List ℕ) (caller nth : ℕ) →
    AreInStep h log roll inventory forecasts rates →
    Follows h log.lines roll roll inventory forecasts rates (plain_line caller (Do (Cancel nth)) AlreadyCancelled)
again_follows h log roll inventory forecasts rates caller nth kept =
    let x : Line = plain_line caller (Do (Cancel nth)) AlreadyCancelled in
    let quiet = again_is_quiet caller nth in
    follows_quiet h log roll inventory forecasts forecasts rates rates x kept quiet refl refl (kept.forecasts_are ∙
    quiet_forecasts h log.lines x quiet (λ j. refl)) (kept.rates_are ∙ quiet_rates h log.lines x (λ j. refl))

-- where the lines that pass stand
pub record StandsAt (test : Line → Bool) (H : History) (k p : ℕ) (y : Line) : Type 0 where
  pub within : p < length H
  pub here : line_at H p ≡ y
  pub passes : test y ≡ true
  pub number : count_by test (take p H) ≡ k

pub filter_stands : (test : Line → Bool) (H : History) (k : ℕ) (y : Line) → slice_get (filter test H) k ≡ Some y → (p : ℕ) × StandsAt test H k p y
filter_stands test [] k y is = absurd (cc)
filter_stands test (x ∷ H) k y is =
    elim (cases_Bool (test x)) [
      | inl t ↦ at_test k t (sym (ap (λ l. slice_get l k) (cond-true _ _ _ t)) ∙ is) (λ j e. filter_stands test H j y e)
      | inr f ↦
          let rest = filter_stands test H k y (sym (ap (λ l. slice_get l k) (cond-false _ _ _ f)) ∙ is) in
          let z = ap (λ (b : Bool). cond {A = ℕ} b 1 0) f in (
            suc rest.0,
            record {
              within = omega (arith, rest.1.within);
              here = rest.1.here;
              passes = rest.1.passes;
              number =
                  omega (arith, sum_by-cons (λ w. cond (test w) 1 0) x (take rest.0 H), rest.1.number, z);
            },
          )
    ]
  where
    at_test : (j : ℕ) → test x ≡ true → slice_get (x ∷ filter test H) j ≡ Some y →
        ((i : ℕ) → slice_get (filter test H) i ≡ Some y → (p : ℕ) × StandsAt test H i p y) → (p : ℕ) × StandsAt test (x ∷ H) j p y
    at_test zero t found rest = let e : x ≡ y = (cc) in (0, record { within = omega arith; here = e; passes = ap test (sym e) ∙ t; number = refl })
    at_test (suc j) t found rest =
        let r = rest j found in
        let z = ap (λ (b : Bool). cond {A = ℕ} b 1 0) t in (
          suc r.0,
          record {
            within = omega (arith, r.1.within);
            here = r.1.here;
            passes = r.1.passes;
            number =
                omega (arith, sum_by-cons (λ w. cond (test w) 1 0) x (take r.0 H), r.1.number, z);
          },
        )

any_left : (test : Line → Bool) (H : History) (n : ℕ) → list_any test H ≡ false → list_any test (drop n H) ≡ false
any_left test H n none =
    let whole : (list_any test (take n H) || list_any test (drop n H)) ≡ false = sym (list_any-append test (take n H) (drop n H)) ∙
    ap (list_any test) (take-append-drop n H) ∙ none in
    or_right (list_any test (take n H)) (list_any test (drop n H)) whole
  where
    or_right : (a b : Bool) → (a || b) ≡ false → b ≡ false
    or_right true b e = absurd (cc)
    or_right false b e = e

-- the nth Book of a caller stands at one place
number_at : (H : History) (caller p : ℕ) → p < length H → is_book_by caller (line_at H p) ≡ true → (line_at H p).entry.caller ≡ caller →
    book_number H p ≡ count_by (is_book_by caller) (take p H) + 1
number_at H caller p within books by =
    let z = ap (λ (b : Bool). cond {A = ℕ} b 1 0) books in
    ap (λ k. count_by (is_book_by k) (take (p + 1) H)) by ∙ ap (count_by (is_book_by caller)) (take-more H p within) ∙
    count-push (is_book_by caller) (take p H) (line_at H p) ∙
    (let e : count_by (is_book_by caller) (take p H) + cond (is_book_by caller (line_at H p)) 1 0 ≡ count_by (is_book_by caller) (take p H) + 1 =
    omega (arith, z) in e)

count_grows : (test : Line → Bool) (H : History) (i j : ℕ) → i ≤ j → count_by test (take i H) ≤ count_by test (take j H)
count_grows test H i j h = let e = ap (count_by test) (take_take H i j h) in omega (arith, e, sum_by-take-le (λ x. cond (test x) 1 0) (take j H) i)

-- two places with the same number are one
one_place : (H : History) (caller i p : ℕ) → i < length H → p < length H → is_book_by caller (line_at H i) ≡ true → is_book_by caller (line_at H p) ≡ true →
    (line_at H i).entry.caller ≡ caller → (line_at H p).entry.caller ≡ caller → book_number H i ≡ book_number H p → i ≡ p
one_place H caller i p iin pin ibook pbook iby pby same =
    let ni = number_at H caller i iin ibook iby in
    let np = number_at H caller p pin pbook pby in
    let mi = count-push (is_book_by caller) (take i H) (line_at H i) in
    let mp = count-push (is_book_by caller) (take p H) (line_at H p) in
    let zi = ap (λ (b : Bool). cond {A = ℕ} b 1 0) ibook in
    let zp = ap (λ (b : Bool). cond {A = ℕ} b 1 0) pbook in
    let ti = ap (count_by (is_book_by caller)) (take-more H i iin) in
    let tp = ap (count_by (is_book_by caller)) (take-more H p pin) in
    elim (cases_lt i p) [
      | inl below ↦ absurd (omega (arith, ni, np, same, mi, zi, ti, count_grows (is_book_by caller) H (i + 1) p (omega arith)))
      | inr above ↦ elim (cases_lt p i) [
        | inl below' ↦ absurd (omega (arith, ni, np, same, mp, zp, tp, count_grows (is_book_by caller) H (p + 1) i (omega arith)))
        | inr above' ↦ omega arith
      ]
    ]

-- what is held on a night after a booking was given up, and what it held
held_given_up : (h : Inn) (H : History) (caller nth stay n : ℕ) → 1 ≤ nth → IsHeld H caller nth stay →
    held_at h (H ++ plain_line caller (Do (Cancel nth)) Cancelled ∷ []) n + cond (covers (span_of h stay) n) 1 0 ≡ held_at h H n
held_given_up h H caller nth stay n from_one held =
    let x : Line = plain_line caller (Do (Cancel nth)) Cancelled in
    let found = filter_stands (is_book_by caller) H (nth - 1) held.line held.is_nth in
    let p : ℕ = found.0 in
    let at = found.1 in
    let books : is_book_by caller (line_at H p) ≡ true = ap (is_book_by caller) at.here ∙ at.passes in
    let parts = and_parts _ _ books in
    let by : (line_at H p).entry.caller ≡ caller = eqb-true _ _ parts.0 in
    let number : book_number H p ≡ nth = omega (arith, number_at H caller p at.within books by, at.number) in
    let f : ℕ → ℕ = λ i. cond (holds_room h H n i) 1 0 in
    let g : ℕ → ℕ = λ i. cond (holds_room h (H ++ x ∷ []) n i) 1 0 in
    let others : (i : ℕ) → i < length H → (i ≡ p → ⊥) → f i ≡ g i = λ i within ne. ap (λ (b : Bool). cond {A = ℕ} b 1 0) (sym (holds_room-old h H x n i within ∙
    elim (cases_Bool (is_cancellation (line_at H i).entry.caller (book_number H i) x)) [
      | inr no_cancel ↦ rw no_cancel (and_not (holds_room h H n i))
      | inl cancels ↦
          let tests = and_parts _ _ cancels in
          let same_caller : caller ≡ (line_at H i).entry.caller = eqb-true _ _ tests.0 in
          let same_nth : nth ≡ book_number H i = eqb-true _ _ (and_parts _ _ tests.1).0 in
          elim (cases_Bool (is_book (line_at H i))) [
            | inl is_one ↦
                let mine : is_book_by caller (line_at H i) ≡ true = and_from _ _ (ap (λ k. k == caller) (sym same_caller) ∙ own_number caller) is_one in
                absurd (ne (one_place H caller i p within at.within mine books (sym same_caller) by (sym same_nth ∙ sym number)))
            | inr none ↦ rw none refl
          ]
    ])) in
    let own : is_cancellation (line_at H p).entry.caller (book_number H p) x ≡ true =
    and_from _ _ (ap (λ k. caller == k) by ∙ own_number caller) (and_from _ _ (ap (λ m. nth == m) number ∙ own_number nth) refl) in
    let gone : holds_room h (H ++ x ∷ []) n p ≡ false = holds_room-old h H x n p at.within ∙ ap (λ b. holds_room h H n p && not b) own ∙
    and_false (holds_room h H n p) in
    let kept : is_given_up H p ≡ false = ap (λ k. list_any (is_cancellation k (book_number H p)) (drop (p + 1) H)) by ∙
    ap (λ m. list_any (is_cancellation caller m) (drop (p + 1) H)) number ∙ any_left (is_cancellation caller nth) H (p + 1) held.kept in
    let accepted : is_accepted (line_at H p).entry.reply ≡ true = ap (λ (y : Line). is_accepted y.entry.reply) at.here ∙ held.accepted in
    let booked : stay_booked H p ≡ stay = ap (λ (y : Line). unwrap_or (booked_stay y.entry.act) 0) at.here ∙ ap (λ o. unwrap_or o 0) held.stay_is in
    let held_it : holds_room h H n p ≡ covers (span_of h stay) n = rw (parts.1, accepted, kept) (ap (λ j. covers (span_of h j) n) booked) in
    let sum = sum_below-at f g (length H) p at.within others in
    let before = ap (λ (b : Bool). cond {A = ℕ} b 1 0) held_it in
    let after = ap (λ (b : Bool). cond {A = ℕ} b 1 0) gone in
    omega (arith, sum, before, after, held_at-push_sum h H x n)
  where
    and_not : (b : Bool) → (b && not false) ≡ b
    and_not true = refl
    and_not false = refl

sold_given_up : (h : Inn) (H : History) (caller nth stay n : ℕ) → 1 ≤ nth → IsHeld H caller nth stay →
    sold_at h (H ++ plain_line caller (Do (Cancel nth)) Cancelled ∷ []) n + cond (covers (span_of h stay) n) 1 0 ≡ sold_at h H n
sold_given_up h H caller nth stay n from_one held =
    omega (arith, held_given_up h H caller nth stay n from_one held, sum-push (rooms_of_group n) H (plain_line caller (Do (Cancel nth)) Cancelled))

pub stock_has_sold : (h : Inn) (H : History) (caller nth stay n : ℕ) → 1 ≤ nth → IsHeld H caller nth stay → covers (span_of h stay) n ≡ true → 1 ≤ sold_at h H n
stock_has_sold h H caller nth stay n from_one held inside =
    let one = ap (λ (b : Bool). cond {A = ℕ} b 1 0) inside in
    omega (arith, sold_given_up h H caller nth stay n from_one held, one)

pub stock_released : (h : Inn) (H : History) (caller nth stay : ℕ) → 1 ≤ nth → IsHeld H caller nth stay →
    released (inventory_of h H) (span_of h stay) 1 ≡ inventory_of h (H ++ plain_line caller (Do (Cancel nth)) Cancelled ∷ [])
stock_released h H caller nth stay from_one held =
    let x : Line = plain_line caller (Do (Cancel nth)) Cancelled in
    let rooms = rooms_stay h H x (λ n. refl) in
    let sold = sold_moves h H (H ++ x ∷ []) (span_of h stay) false 1 (λ n g. less n) in
    ap (λ (r : List ℕ). record { rooms = r; sold = (released (inventory_of h H) (span_of h stay) 1).sold }) rooms ∙
    ap (λ (s : List ℕ). record { rooms = (inventory_of h (H ++ x ∷ [])).rooms; sold = s }) sold
  where
    less : (n : ℕ) → sold_at h (H ++ plain_line caller (Do (Cancel nth)) Cancelled ∷ []) n ≡
        cond (covers (span_of h stay) n) (sold_at h H n - 1) (sold_at h H n)
    less n = elim (cases_Bool (covers (span_of h stay) n)) [
      | inl t ↦ let one = ap (λ (b : Bool). cond {A = ℕ} b 1 0) t in rw t (omega (arith, sold_given_up h H caller nth stay n from_one held, one))
      | inr f ↦ let none = ap (λ (b : Bool). cond {A = ℕ} b 1 0) f in rw f (omega (arith, sold_given_up h H caller nth stay n from_one held, none))
    ]

pub held_reply : (H : History) (caller nth stay : ℕ) → IsHeld H caller nth stay → Cancelled ≡ cancel_reply H caller nth
held_reply H caller nth stay held = sym (rw (held.is_nth, held.kept, held.accepted) refl)

pub held_span : (h : Inn) (H : History) (caller nth stay : ℕ) → IsHeld H caller nth stay → span_of h stay ≡ span_booked h H caller nth
held_span h H caller nth stay held =
    sym (ap (λ o. span_of h (option_map_or (λ (x : Line). unwrap_or (booked_stay x.entry.act) 0) o 0)) held.is_nth ∙
    ap (λ o. span_of h (unwrap_or o 0)) held.stay_is)

in_range_stay : (h : Inn) (act : Act) (stay : ℕ) → IsTrue (is_in_range h act) → booked_stay act ≡ Some stay → stay < length h.stays
in_range_stay h (Do (Book s)) stay range is = let e : s ≡ stay = (cc) in omega (arith, e, ltb-true _ _ range)
in_range_stay h (Do (Cancel nth)) stay range is = absurd (cc)
in_range_stay h (Do (Reforecast s count)) stay range is = absurd (cc)
in_range_stay h (Do (Reprice s rate)) stay range is = absurd (cc)
in_range_stay h (Do (Resize night rooms)) stay range is = absurd (cc)
in_range_stay h (Do (Group span rooms amount)) stay range is = absurd (cc)
in_range_stay h (Publish position) stay range is = absurd (cc)
in_range_stay h Enrol stay range is = absurd (cc)
in_range_stay h Leave stay range is = absurd (cc)

-- a held booking is of a stay of the house
pub held_in_range : (h : Inn) (H : History) (caller nth stay : ℕ) → IsLegal h H → IsHeld H caller nth stay → stay < length h.stays
held_in_range h H caller nth stay legal held =
    let found = filter_stands (is_book_by caller) H (nth - 1) held.line held.is_nth in
    in_range_stay h (line_at H found.0).entry.act stay (legal.lines found.0 found.1.within).range (ap (λ (y : Line). booked_stay y.entry.act) found.1.here ∙
    held.stay_is)

pub held_within : (H : History) (caller nth stay : ℕ) (bs : List Booking) → 1 ≤ nth → AreBookingsOf H caller bs → IsHeld H caller nth stay → nth ≤ length bs
held_within H caller nth stay bs from_one were held =
    let within : nth - 1 < length (filter (is_book_by caller) H) = slice_get_within (filter (is_book_by caller) H) (nth - 1) held.line held.is_nth in
    omega (arith, within, length-filter (is_book_by caller) H, were.as_many)

-- the booking calls of a caller, one of them given up
bookings_given_up : (H : History) (caller nth stay : ℕ) (bs : List Booking) (b : Booking) → 1 ≤ nth → AreBookingsOf H caller bs → IsHeld H caller nth stay →
    b.stay ≡ stay → b.fate ≡ GivenUp →
    AreBookingsOf (H ++ plain_line caller (Do (Cancel nth)) Cancelled ∷ []) caller (set bs (nth - 1) b)
bookings_given_up H caller nth stay bs b from_one were held stay_is fate_is =
    let x : Line = plain_line caller (Do (Cancel nth)) Cancelled in
    let no_book : is_book_by caller x ≡ false = and_false (caller == caller) in
    let inside = held_within H caller nth stay bs from_one were held in
    record {
      as_many = (let z = ap (λ (t : Bool). cond {A = ℕ} t 1 0) no_book in
          omega (arith, length-set bs (nth - 1) b, were.as_many, count-push (is_book_by caller) H x, z));
      each = λ k c is.
          let within : k < length (set bs (nth - 1) b) = slice_get_within (set bs (nth - 1) b) k c is in
          let read : get_or (set bs (nth - 1) b) k b ≡ c = get_or_from_slice_get (set bs (nth - 1) b) k c b is in
          elim (cases_eq k (nth - 1)) [
            | inl here ↦
                let own : b ≡ c = sym (ap (λ m. get_or (set bs (nth - 1) b) m b) here ∙ get_or-set_same bs (nth - 1) b b (omega arith)) ∙ read in
                let place : k + 1 ≡ nth = omega arith in
                let given : list_any (is_cancellation caller (k + 1)) (H ++ x ∷ []) ≡ true = any-push (is_cancellation caller (k + 1)) H x ∙
                ap (λ t. list_any (is_cancellation caller (k + 1)) H || (t && ((nth == (k + 1)) && true))) (own_number caller) ∙
                ap (λ m. list_any (is_cancellation caller (k + 1)) H || (true && ((nth == m) && true))) place ∙
                ap (λ t. list_any (is_cancellation caller (k + 1)) H || (true && (t && true))) (own_number nth) ∙
                did_true (list_any (is_cancellation caller (k + 1)) H) in
                record {
                  line = held.line;
                  is_nth = nth_book_kept H x caller (k + 1) no_book ∙ ap (nth_book H caller) place ∙ held.is_nth;
                  stay = held.stay_is ∙ ap {B = Option ℕ} Some (sym stay_is ∙ ap (λ (d : Booking). d.stay) own);
                  fate = ap (λ (d : Booking). d.fate) (sym own) ∙ fate_is ∙
                      sym (ap (λ t. fate_by t (list_any (is_cancellation caller (k + 1)) (H ++ x ∷ []))) held.accepted ∙ ap (fate_by true) given);
                }
            | inr other ↦
                let old : get_or bs k b ≡ c = sym (get_or-set_other bs (nth - 1) k b b other) ∙ read in
                let was = were.each k c (slice_get-get_or bs k b (omega (arith, within, length-set bs (nth - 1) b)) ∙ ap {B = Option Booking} Some old) in
                let apart : (nth == (k + 1)) ≡ false = ne_eqb nth (k + 1) (λ e. other (omega arith)) in
                let none : is_cancellation caller (k + 1) x ≡ false = ap (λ t. (caller == caller) && (t && true)) apart ∙ and_false (caller == caller) in
                booking_kept H x caller (k + 1) c no_book none was
          ];
    }

pub give_up_follows : (h : Inn) (log : LogView) (roll : RollView) (inventory inventory' : Inventory) (forecasts rates : List ℕ) (caller nth stay : ℕ)
    (b : Booking) → AreInStep h log roll inventory forecasts rates → caller < CALLERS → 1 ≤ nth → IsHeld log.lines caller nth stay → b.stay ≡ stay →
    b.fate ≡ GivenUp → inventory' ≡ released inventory (span_of h stay) 1 →
    Follows h log.lines roll (with_bookings roll caller (set (bookings_of roll caller) (nth - 1) b)) inventory' forecasts rates
    (plain_line caller (Do (Cancel nth)) Cancelled)
give_up_follows h log roll inventory inventory' forecasts rates caller nth stay b kept small from_one held stay_is fate_is stock =
    let H : History = log.lines in
    let x : Line = plain_line caller (Do (Cancel nth)) Cancelled in
    let l : List Booking = set (bookings_of roll caller) (nth - 1) b in
    record {
      roll_room = refl;
      each_standing = kept.each_standing;
      each_caller = length-set _ _ _ ∙ kept.each_caller;
      standings = λ k h'. kept.standings k h' ∙ standing_kept H x k refl refl;
      bookings = λ k h'. elim (cases_eq k caller) [
        | inl here ↦
            let same : bookings_of (with_bookings roll caller l) k ≡ l = ap (λ m. get_or (set roll.bookings caller l) m []) here ∙
            get_or-set_same roll.bookings caller l [] (omega (arith, kept.each_caller)) in
            let P : List Booking → Type 0 = λ m. AreBookingsOf (H ++ x ∷ []) k m in
            let Q : ℕ → Type 0 = λ m. AreBookingsOf (H ++ x ∷ []) m l in
            subst P (sym same) (subst Q (sym here)
            (bookings_given_up H caller nth stay (bookings_of roll caller) b from_one (kept.bookings caller small) held stay_is fate_is))
        | inr other ↦
            let same : bookings_of (with_bookings roll caller l) k ≡ bookings_of roll k = get_or-set_other roll.bookings caller k l [] other in
            let P : List Booking → Type 0 = λ m. AreBookingsOf (H ++ x ∷ []) k m in
            subst P (sym same) (bookings_kept H x k (bookings_of roll k) (and_false (caller == k))
            (λ m. ap (λ t. t && ((nth == m) && true)) (other_number caller k other)) (kept.bookings k h'))
      ];
      stock = stock ∙ ap (λ v. released v (span_of h stay) 1) kept.stock ∙ stock_released h H caller nth stay from_one held;
      forecasts_are = kept.forecasts_are ∙ numbers_same _ _ (length h.stays) (λ j g. forecast_kept h H x j refl refl);
      rates_are = kept.rates_are ∙ quiet_rates h H x (λ j. refl);
    }

-- what a kept booking says of a Cancel
pub booking_reply : (H : History) (caller nth : ℕ) (line : Line) (reply : Reply) → nth_book H caller nth ≡ Some line →
    reply ≡ given_up_reply (Some line) (list_any (is_cancellation caller nth) H) → reply ≡ cancel_reply H caller nth
booking_reply H caller nth line reply is_nth is = is ∙ ap (λ o. given_up_reply o (list_any (is_cancellation caller nth) H)) (sym is_nth)

pub refused_reply : (H : History) (caller nth : ℕ) (b : Booking) → IsBookingOf H caller nth b → b.fate ≡ Refused → NotBooked ≡ cancel_reply H caller nth
refused_reply H caller nth b is refused =
    booking_reply H caller nth is.line NotBooked is.is_nth (go (is_accepted is.line.entry.reply) (list_any (is_cancellation caller nth) H) (sym refused ∙
    is.fate))
  where
    go : (accepted again : Bool) → Refused ≡ fate_by accepted again → NotBooked ≡ cond accepted (cond again AlreadyCancelled Cancelled) NotBooked
    go true true e = absurd (cc)
    go true false e = absurd (cc)
    go false again e = refl

pub again_reply : (H : History) (caller nth : ℕ) (b : Booking) → IsBookingOf H caller nth b → b.fate ≡ GivenUp → AlreadyCancelled ≡ cancel_reply H caller nth
again_reply H caller nth b is given =
    booking_reply H caller nth is.line AlreadyCancelled is.is_nth (go (is_accepted is.line.entry.reply) (list_any (is_cancellation caller nth) H) (sym given ∙
    is.fate))
  where
    go : (accepted again : Bool) → GivenUp ≡ fate_by accepted again → AlreadyCancelled ≡ cond accepted (cond again AlreadyCancelled Cancelled) NotBooked
    go true true e = refl
    go true false e = absurd (cc)
    go false again e = absurd (cc)

pub none_reply : (H : History) (caller nth : ℕ) (bs : List Booking) → 1 ≤ nth → AreBookingsOf H caller bs → slice_get bs (nth - 1) ≡ None →
    NotBooked ≡ cancel_reply H caller nth
none_reply H caller nth bs from_one were none =
    let past : length bs ≤ nth - 1 = elim (cases_lt (nth - 1) (length bs)) [
      | inl within ↦ elim (cases_Option (slice_get (filter (is_book_by caller) H) (nth - 1))) [
        | inl gone ↦ no_get bs (nth - 1) none
        | inr (y, there) ↦ no_get bs (nth - 1) none
      ]
      | inr above ↦ above
    ] in
    let gone : nth_book H caller nth ≡ None =
    slice_get_past (filter (is_book_by caller) H) (nth - 1) (omega (arith, past, length-filter (is_book_by caller) H, were.as_many)) in
    sym (ap (λ o. given_up_reply o (list_any (is_cancellation caller nth) H)) gone)
  where
    no_get : (xs : List Booking) (k : ℕ) → slice_get xs k ≡ None → length xs ≤ k
    no_get [] k e = omega arith
    no_get (z ∷ xs) zero e = absurd (cc)
    no_get (z ∷ xs) (suc k) e = omega (arith, no_get xs k e)

pub held_booking : (H : History) (caller nth stay : ℕ) (b : Booking) → IsBookingOf H caller nth b → b.fate ≡ Held → b.stay ≡ stay → IsHeld H caller nth stay
held_booking H caller nth stay b is held stay_is =
    let both = go (is_accepted is.line.entry.reply) (list_any (is_cancellation caller nth) H) (sym held ∙ is.fate) in
    record { line = is.line; is_nth = is.is_nth; stay_is = is.stay ∙ ap {B = Option ℕ} Some stay_is; accepted = both.0; kept = both.1 }
  where
    go : (accepted again : Bool) → Held ≡ fate_by accepted again → (accepted ≡ true) × (again ≡ false)
    go true true e = absurd (cc)
    go true false e = (refl, refl)
    go false again e = absurd (cc)
