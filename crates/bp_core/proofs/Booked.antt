-- A stay is asked for, and booked or not.
use Rattle.std.proofs.Common.{
  ◌≡◌,
  ℕ,
  ◌+◌,
  ◌*◌,
  ◌-◌,
  ◌<◌,
  refl,
  ap,
  sym,
  subst,
  ◌∙◌,
  arith,
  Bool,
  true,
  false,
  cond,
  ◌==◌,
  ◌&&◌,
  IsTrue,
  List,
  [],
  ◌∷◌,
  ◌++◌,
  length,
  map,
  set,
  get_or,
  count_by,
  Option,
  None,
  length-set,
  get_or-set_same,
  get_or-set_other,
  inl,
  inr,
}
use Rattle.std.proofs.Math.Nat.{mul-add}
use Rattle.std.proofs.lemmas.Bool.{cases_Bool, cases_eq, lt-ltb}
use Rattle.bp_types.specs.declared.stay.Span.{Span}
use Rattle.bp_types.specs.declared.change.Change.TheVariants.{Rooms, Demand}
use Rattle.bp_types.specs.Program.{covers}
use Rattle.bp_types.specs.House.{Inn}
use Rattle.bp_types.specs.declared.command.Command.TheVariants.{Book}
use Rattle.bp_types.specs.declared.limits.TheConstants.{CALLERS}
use Rattle.bp_ledger.specs.Inventory.{Inventory, taken}
use Rattle.bp_core.specs.declared.line.Act.TheVariants.{Do}
use Rattle.bp_core.specs.declared.line.Reply.{Reply}
use Rattle.bp_core.specs.declared.line.Line.{Line}
use Rattle.bp_core.specs.declared.roll.Booking.{Booking}
use Rattle.bp_core.specs.Acting.{plain_line}
use Rattle.bp_core.specs.Lines.{History, commands, is_accepted, is_done, is_group_accepted, since, last_position}
use Rattle.bp_core.specs.Callers.{may_log}
use Rattle.bp_core.specs.Changes.{changes_after, deltas_of}
use Rattle.bp_core.specs.Instance.{house_stay, span_of, sold_at, forecast_of, reforecast_count, is_reforecast_of, is_book_of}
use Rattle.bp_core.specs.Answer.{book_reply}
use Rattle.bp_core.specs.Legal.{IsLegal, IsLegalLine, is_in_range}
use Rattle.bp_core.specs.Log.{LogView}
use Rattle.bp_core.specs.Roll.{RollView, bookings_of, with_bookings}
use Rattle.bp_core.specs.Keeping.{AreInStep, numbers, inventory_of, fate_by, AreBookingsOf}
use Rattle.bp_core.proofs.Counts.{and_false, own_number, other_number}
use Rattle.bp_core.proofs.Cases.{cond_same}
use Rattle.bp_core.proofs.Pushes.{last_value-push, count-push, since-push_miss}
use Rattle.bp_core.proofs.Sold.{sold_at-push}
use Rattle.bp_core.proofs.Setting.{not_full_allowed}
use Rattle.bp_core.proofs.Effects.{count_set, numbers_set, opened, standing_kept, forecast_kept, bookings_kept, stock_kept}
use Rattle.bp_core.proofs.Stocking.{sold_moves, rooms_stay}
use Rattle.bp_core.proofs.Bookings.{bookings_more}
use Rattle.bp_core.proofs.InStepMore.{Follows}
use Rattle.bp_core.proofs.Quiet.{quiet_rates}

pub book_is_legal : (h : Inn) (H : History) (caller stay : ℕ) (reply : Reply) → IsLegal h H → IsTrue (may_log H caller (Do (Book stay))) →
    IsTrue (is_in_range h (Do (Book stay))) → ((commands H ≡ h.limits.entries) → ⊥) →
    changes_after H (last_position H) < h.limits.stale_after → reply ≡ book_reply h H stay → IsLegalLine h H (plain_line caller (Do (Book stay)) reply)
book_is_legal h H caller stay reply legal may range not_full fresh is = record {
  opening = opened h H (plain_line caller (Do (Book stay)) reply) legal;
  caller = may;
  range = range;
  limit = not_full_allowed h H legal not_full;
  behind = lt-ltb _ _ fresh;
  position = refl;
  certificate = refl;
  reply = is;
}

-- a Book, whatever its reply, takes one stay off its forecast
pub forecast_booked : (h : Inn) (H : History) (caller stay : ℕ) (reply : Reply) →
    forecast_of h (H ++ plain_line caller (Do (Book stay)) reply ∷ []) stay ≡ forecast_of h H stay - h.limits.unit
forecast_booked h H caller stay reply =
    let x : Line = plain_line caller (Do (Book stay)) reply in
    let count : Line → Option ℕ = λ y. reforecast_count stay y.entry.act in
    let k : ℕ = count_by (is_book_of stay) (since (is_reforecast_of stay) H) in
    let same : count_set h (H ++ x ∷ []) stay ≡ count_set h H stay = last_value-push count (house_stay h stay).forecast H x in
    let more = since-push_miss (is_reforecast_of stay) H x refl in
    let one : cond (is_book_of stay x) 1 0 ≡ 1 = ap (λ (b : Bool). cond {A = ℕ} b 1 0) (own_number stay) in
    let booked : count_by (is_book_of stay) (since (is_reforecast_of stay) (H ++ x ∷ [])) ≡ k + 1 = ap (count_by (is_book_of stay)) more ∙
    count-push (is_book_of stay) (since (is_reforecast_of stay) H) x ∙ ap (λ n. k + n) one in
    ap (λ n. n - h.limits.unit * count_by (is_book_of stay) (since (is_reforecast_of stay) (H ++ x ∷ []))) same ∙
    ap (λ n. count_set h H stay - h.limits.unit * n) booked ∙ step (count_set h H stay) h.limits.unit k
  where
    step : (f u k : ℕ) → f - u * (k + 1) ≡ f - u * k - u
    step f u k = let e : u * (k + 1) ≡ u * k + u = mul-add u k 1 ∙ (let o : u * k + u * 1 ≡ u * k + u = omega arith in o) in omega (arith, e)

pub forecasts_booked : (h : Inn) (H : History) (caller stay value : ℕ) (reply : Reply) (forecasts : List ℕ) →
    forecasts ≡ map (forecast_of h H) (numbers (length h.stays)) → stay < length h.stays → value ≡ forecast_of h H stay - h.limits.unit →
    set forecasts stay value ≡ map (forecast_of h (H ++ plain_line caller (Do (Book stay)) reply ∷ [])) (numbers (length h.stays))
forecasts_booked h H caller stay value reply forecasts are within is =
    let x : Line = plain_line caller (Do (Book stay)) reply in
    ap (λ (l : List ℕ). set l stay value) are ∙
    numbers_set (forecast_of h H) (forecast_of h (H ++ x ∷ [])) (length h.stays) stay value within (is ∙
    sym (forecast_booked h H caller stay reply)) (λ j g ne. forecast_kept h H x j refl (other_number stay j ne))

-- an accepted booking sells a room of each night
pub stock_booked : (h : Inn) (H : History) (caller stay : ℕ) (reply : Reply) → is_accepted reply ≡ true →
    taken (inventory_of h H) (span_of h stay) 1 ≡ inventory_of h (H ++ plain_line caller (Do (Book stay)) reply ∷ [])
stock_booked h H caller stay reply accepted =
    let x : Line = plain_line caller (Do (Book stay)) reply in
    let rooms = rooms_stay h H x (λ n. cond_same {X = Option ℕ} (is_done reply) None) in
    let sold = sold_moves h H (H ++ x ∷ []) (span_of h stay) true 1 (λ n g. sold_at-push h H x n (λ k nth. and_false (caller == k)) ∙ one_more n) in
    ap (λ (r : List ℕ). record { rooms = r; sold = (taken (inventory_of h H) (span_of h stay) 1).sold }) rooms ∙
    ap (λ (s : List ℕ). record { rooms = (inventory_of h (H ++ x ∷ [])).rooms; sold = s }) sold
  where
    one_more : (n : ℕ) → sold_at h H n + cond (is_accepted reply && covers (span_of h stay) n) 1 0 + cond (is_group_accepted reply) 0 0 ≡
        cond (covers (span_of h stay) n) (sold_at h H n + 1) (sold_at h H n)
    one_more n = rw (accepted, cond_same {X = ℕ} (is_group_accepted reply) 0)
        (elim (cases_Bool (covers (span_of h stay) n)) [ inl t ↦ rw t (omega arith) | inr f ↦ rw f (omega arith) ])

-- a refused one sells none
pub stock_refused : (h : Inn) (H : History) (caller stay : ℕ) (reply : Reply) → is_accepted reply ≡ false →
    inventory_of h H ≡ inventory_of h (H ++ plain_line caller (Do (Book stay)) reply ∷ [])
stock_refused h H caller stay reply refused =
    let x : Line = plain_line caller (Do (Book stay)) reply in
    stock_kept h H x (λ n. cond_same {X = Option ℕ} (is_done reply) None) (λ k nth. and_false (caller == k)) (λ n. rw refused refl)
    (λ n. cond_same {X = ℕ} (is_group_accepted reply) 0)

-- the roll with a booking call more
pub roll_booked : (h : Inn) (H : History) (roll : RollView) (caller stay : ℕ) (reply : Reply) (b : Booking) → IsLegal h H → length roll.bookings ≡ CALLERS →
    caller < CALLERS → ((k : ℕ) → k < CALLERS → AreBookingsOf H k (bookings_of roll k)) → b.stay ≡ stay → b.fate ≡ fate_by (is_accepted reply) false →
    (k : ℕ) → k < CALLERS → AreBookingsOf (H ++ plain_line caller (Do (Book stay)) reply ∷ []) k
    (bookings_of (with_bookings roll caller (bookings_of roll caller ++ b ∷ [])) k)
roll_booked h H roll caller stay reply b legal each small were stay_is fate_is k within =
    let x : Line = plain_line caller (Do (Book stay)) reply in
    elim (cases_eq k caller) [
      | inl here ↦
          let same : bookings_of (with_bookings roll caller (bookings_of roll caller ++ b ∷ [])) k ≡ bookings_of roll caller ++ b ∷ [] =
          ap (λ m. get_or (set roll.bookings caller (bookings_of roll caller ++ b ∷ [])) m []) here ∙
          get_or-set_same roll.bookings caller (bookings_of roll caller ++ b ∷ []) [] (omega (arith, each)) in
          let P : List Booking → Type 0 = λ l. AreBookingsOf (H ++ x ∷ []) k l in
          let Q : ℕ → Type 0 = λ m. AreBookingsOf (H ++ x ∷ []) m (bookings_of roll caller ++ b ∷ []) in
          subst P (sym same) (subst Q (sym here) (bookings_more h H caller stay reply (bookings_of roll caller) b legal (were caller small) stay_is fate_is))
      | inr other ↦
          let same : bookings_of (with_bookings roll caller (bookings_of roll caller ++ b ∷ [])) k ≡ bookings_of roll k =
          get_or-set_other roll.bookings caller k (bookings_of roll caller ++ b ∷ []) [] other in
          let P : List Booking → Type 0 = λ l. AreBookingsOf (H ++ x ∷ []) k l in
          subst P (sym same) (bookings_kept H x k (bookings_of roll k) (ap (λ t. t && true) (other_number caller k other)) (λ nth. and_false (caller == k))
          (were k within))
    ]

pub book_follows : (h : Inn) (log : LogView) (roll : RollView) (inventory inventory' : Inventory) (forecasts rates : List ℕ) (caller stay value : ℕ)
    (reply : Reply) (b : Booking) → AreInStep h log roll inventory forecasts rates → caller < CALLERS → stay < length h.stays →
    value ≡ forecast_of h log.lines stay - h.limits.unit → b.stay ≡ stay → b.fate ≡ fate_by (is_accepted reply) false →
    inventory' ≡ inventory_of h (log.lines ++ plain_line caller (Do (Book stay)) reply ∷ []) →
    Follows h log.lines roll (with_bookings roll caller (bookings_of roll caller ++ b ∷ [])) inventory' (set forecasts stay value) rates
    (plain_line caller (Do (Book stay)) reply)
book_follows h log roll inventory inventory' forecasts rates caller stay value reply b kept small within value_is stay_is fate_is stock = record {
  roll_room = refl;
  each_standing = kept.each_standing;
  each_caller = length-set _ _ _ ∙ kept.each_caller;
  standings = λ k h'. kept.standings k h' ∙ standing_kept log.lines (plain_line caller (Do (Book stay)) reply) k refl refl;
  bookings = roll_booked h log.lines roll caller stay reply b kept.legal kept.each_caller small kept.bookings stay_is fate_is;
  stock = stock;
  forecasts_are = forecasts_booked h log.lines caller stay value reply forecasts kept.forecasts_are within value_is;
  rates_are = kept.rates_are ∙ quiet_rates h log.lines (plain_line caller (Do (Book stay)) reply) (λ j. refl);
}

-- what a booking changes
pub deltas_booked : (h : Inn) (H : History) (caller stay value units : ℕ) (span : Span) (reply : Reply) → is_accepted reply ≡ true → span ≡ span_of h stay →
    units ≡ h.limits.unit → value ≡ forecast_of h H stay - h.limits.unit →
    Rooms span false units ∷ Demand stay value ∷ [] ≡ deltas_of h H (plain_line caller (Do (Book stay)) reply)
deltas_booked h H caller stay value units span reply accepted span_is units_is value_is =
    let now : value ≡ forecast_of h (H ++ plain_line caller (Do (Book stay)) reply ∷ []) stay = value_is ∙ sym (forecast_booked h H caller stay reply) in
    rw accepted (ap (λ s. Rooms s false units ∷ Demand stay value ∷ []) span_is ∙ ap (λ u. Rooms (span_of h stay) false u ∷ Demand stay value ∷ []) units_is ∙
    ap (λ v. Rooms (span_of h stay) false h.limits.unit ∷ Demand stay v ∷ []) now)

pub deltas_refused : (h : Inn) (H : History) (caller stay value : ℕ) (reply : Reply) → is_accepted reply ≡ false →
    value ≡ forecast_of h H stay - h.limits.unit → Demand stay value ∷ [] ≡ deltas_of h H (plain_line caller (Do (Book stay)) reply)
deltas_refused h H caller stay value reply refused value_is =
    rw refused (ap (λ v. Demand stay v ∷ []) (value_is ∙ sym (forecast_booked h H caller stay reply)))
