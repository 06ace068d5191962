-- What a line leaves as it was, part by part.
use Rattle.std.proofs.Common.{
  ◌≡◌,
  ℕ,
  ◌+◌,
  ◌*◌,
  ◌-◌,
  ◌<◌,
  refl,
  ap,
  sym,
  ◌∙◌,
  arith,
  Bool,
  false,
  cond,
  ◌||◌,
  IsTrue,
  List,
  [],
  ◌∷◌,
  ◌++◌,
  length,
  map,
  set,
  filter,
  count_by,
  get_or,
  slice_get,
  slice_index,
  Option,
  None,
  is_some,
  unwrap_or,
  append-nil,
  length-set,
  get_or-set_same,
  get_or-set_other,
  inl,
  inr,
}
use Rattle.std.specs.List.{list_any}
use Rattle.std.proofs.lemmas.Bool.{cases_eq, lt-ltb}
use Rattle.std.proofs.lemmas.List.Elements.{filter-append}
use Rattle.std.proofs.lemmas.List.FromFn.{fill_by_all, length-map-range_with_len, get_or-map-range_with_len}
use Rattle.bp_types.specs.House.{Inn}
use Rattle.bp_core.specs.declared.line.Line.{Line}
use Rattle.bp_core.specs.declared.roll.Booking.{Booking}
use Rattle.bp_core.specs.Lines.{History, is_book_by, is_cancellation, nth_book, last_value, since}
use Rattle.bp_core.specs.Callers.{is_enrol, is_leave, has_enrolled, has_left}
use Rattle.bp_core.specs.Instance.{
  house_stay,
  resized_rooms,
  rooms_at,
  sold_at,
  rooms_of_group,
  reforecast_count,
  is_reforecast_of,
  is_book_of,
  forecast_of,
  reprice_rate,
  rate_of,
}
use Rattle.bp_core.specs.Legal.{IsLegal, opens}
use Rattle.bp_core.specs.Keeping.{numbers, inventory_of, standing_by, AreBookingsOf, IsBookingOf}
use Rattle.bp_core.proofs.Counts.{enrolled_stays, left_stays, did_old}
use Rattle.bp_core.proofs.Pushes.{last_value-push, count-push, any-push, since-push_miss}
use Rattle.bp_core.proofs.Sold.{books_night, sold_at-push}

-- a list of one number for each, where the numbers stay
pub numbers_same : (f g : ℕ → ℕ) (n : ℕ) → ((k : ℕ) → k < n → f k ≡ g k) → map f (numbers n) ≡ map g (numbers n)
numbers_same f g n same =
    fill_by_all g (map f (numbers n)) n 0 (length-map-range_with_len f 0 n) (λ k h. get_or-map-range_with_len f 0 n k k 0 h (omega arith) ∙ same k h)

-- and where one of them changes
pub numbers_set : (f g : ℕ → ℕ) (n i x : ℕ) → i < n → x ≡ g i → ((k : ℕ) → k < n → (k ≡ i → ⊥) → f k ≡ g k) → set (map f (numbers n)) i x ≡ map g (numbers n)
numbers_set f g n i x within is others =
    let each = length-map-range_with_len f 0 n in
    fill_by_all g (set (map f (numbers n)) i x) n 0 (length-set _ _ _ ∙ each) (λ k h.
    elim (cases_eq k i) [
      | inl here ↦ ap (λ m. get_or (set (map f (numbers n)) i x) m 0) here ∙ get_or-set_same (map f (numbers n)) i x 0 (omega (arith, each)) ∙ is ∙
          ap g (sym here)
      | inr other ↦ get_or-set_other (map f (numbers n)) i k x 0 other ∙ get_or-map-range_with_len f 0 n k k 0 h (omega arith) ∙ others k h other
    ])

-- the forecast that was set last
abbrev pub count_set : Inn → History → ℕ → ℕ
count_set h H j = last_value (λ (x : Line). reforecast_count j x.entry.act) (house_stay h j).forecast H

pub forecast_kept : (h : Inn) (H : History) (x : Line) (j : ℕ) → reforecast_count j x.entry.act ≡ None → is_book_of j x ≡ false →
    forecast_of h H j ≡ forecast_of h (H ++ x ∷ []) j
forecast_kept h H x j no_count no_book =
    let count : Line → Option ℕ = λ y. reforecast_count j y.entry.act in
    let set_before : count_set h (H ++ x ∷ []) j ≡ count_set h H j = last_value-push count (house_stay h j).forecast H x ∙
    ap (λ o. unwrap_or o (count_set h H j)) no_count in
    let more = since-push_miss (is_reforecast_of j) H x (ap (λ (o : Option ℕ). is_some o) no_count) in
    let booked : count_by (is_book_of j) (since (is_reforecast_of j) (H ++ x ∷ [])) ≡ count_by (is_book_of j) (since (is_reforecast_of j) H) =
    ap (count_by (is_book_of j)) more ∙ count-push (is_book_of j) (since (is_reforecast_of j) H) x ∙
    (let z = ap (λ (b : Bool). cond {A = ℕ} b 1 0) no_book in omega (arith, z)) in
    ap (λ n. n - h.limits.unit * count_by (is_book_of j) (since (is_reforecast_of j) H)) (sym set_before) ∙
    ap (λ n. count_set h (H ++ x ∷ []) j - h.limits.unit * n) (sym booked)

pub rate_kept : (h : Inn) (H : History) (x : Line) (j : ℕ) → reprice_rate j x.entry.act ≡ None → rate_of h H j ≡ rate_of h (H ++ x ∷ []) j
rate_kept h H x j none =
    let rate : Line → Option ℕ = λ y. reprice_rate j y.entry.act in
    sym (last_value-push rate (house_stay h j).rate H x ∙ ap (λ o. unwrap_or o (rate_of h H j)) none)

-- the stock stays where no line sets, sells or gives up rooms
pub stock_kept : (h : Inn) (H : History) (x : Line) → ((n : ℕ) → resized_rooms n x ≡ None) → ((caller nth : ℕ) → is_cancellation caller nth x ≡ false) →
    ((n : ℕ) → books_night h n x ≡ false) → ((n : ℕ) → rooms_of_group n x ≡ 0) → inventory_of h H ≡ inventory_of h (H ++ x ∷ [])
stock_kept h H x no_resize no_cancel no_book no_group =
    let rooms = numbers_same (rooms_at h H) (rooms_at h (H ++ x ∷ [])) (length h.rooms)
    (λ n g. sym (last_value-push (resized_rooms n) (slice_index h.rooms n) H x ∙ ap (λ o. unwrap_or o (rooms_at h H n)) (no_resize n))) in
    let sold = numbers_same (sold_at h H) (sold_at h (H ++ x ∷ [])) (length h.rooms) (λ n g. let z = ap (λ (b : Bool). cond {A = ℕ} b 1 0) (no_book n) in
    omega (arith, sold_at-push h H x n no_cancel, z, no_group n)) in
    ap (λ (r : List ℕ). record { rooms = r; sold = map (sold_at h H) (numbers (length h.rooms)) }) rooms ∙
    ap (λ (s : List ℕ). record { rooms = map (rooms_at h (H ++ x ∷ [])) (numbers (length h.rooms)); sold = s }) sold

pub standing_kept : (H : History) (x : Line) (caller : ℕ) → is_enrol x.entry.act ≡ false → is_leave x.entry.act ≡ false →
    standing_by (has_enrolled H caller) (has_left H caller) ≡ standing_by (has_enrolled (H ++ x ∷ []) caller) (has_left (H ++ x ∷ []) caller)
standing_kept H x caller no_enrol no_leave =
    ap (λ b. standing_by b (has_left H caller)) (enrolled_stays H x.entry.caller x.entry.act x.entry.reply x.certificate no_enrol caller) ∙
    ap (λ b. standing_by (has_enrolled (H ++ x ∷ []) caller) b) (left_stays H x.entry.caller x.entry.act x.entry.reply x.certificate no_leave caller)

-- the nth Book of a caller, where the line is no Book of it
pub nth_book_kept : (H : History) (x : Line) (caller nth : ℕ) → is_book_by caller x ≡ false → nth_book (H ++ x ∷ []) caller nth ≡ nth_book H caller nth
nth_book_kept H x caller nth no_book =
    ap (λ l. slice_get l (nth - 1)) (filter-append (is_book_by caller) H (x ∷ []) ∙ ap (λ l. filter (is_book_by caller) H ++ l) (rw no_book refl) ∙
    append-nil (filter (is_book_by caller) H))

pub given_up_kept : (H : History) (x : Line) (caller nth : ℕ) → is_cancellation caller nth x ≡ false →
    list_any (is_cancellation caller nth) (H ++ x ∷ []) ≡ list_any (is_cancellation caller nth) H
given_up_kept H x caller nth none = any-push (is_cancellation caller nth) H x ∙ ap (λ b. list_any (is_cancellation caller nth) H || b) none ∙
    did_old (list_any (is_cancellation caller nth) H)

pub booking_kept : (H : History) (x : Line) (caller nth : ℕ) (b : Booking) → is_book_by caller x ≡ false → is_cancellation caller nth x ≡ false →
    IsBookingOf H caller nth b → IsBookingOf (H ++ x ∷ []) caller nth b
booking_kept H x caller nth b no_book none was = record {
  line = was.line;
  is_nth = nth_book_kept H x caller nth no_book ∙ was.is_nth;
  stay = was.stay;
  fate = rw (given_up_kept H x caller nth none) was.fate;
}

pub bookings_kept : (H : History) (x : Line) (caller : ℕ) (bs : List Booking) → is_book_by caller x ≡ false →
    ((nth : ℕ) → is_cancellation caller nth x ≡ false) → AreBookingsOf H caller bs → AreBookingsOf (H ++ x ∷ []) caller bs
bookings_kept H x caller bs no_book none were = record {
  as_many = (let z = ap (λ (b : Bool). cond {A = ℕ} b 1 0) no_book in omega (arith, were.as_many, count-push (is_book_by caller) H x, z));
  each = λ k b is. booking_kept H x caller (k + 1) b no_book (none (k + 1)) (were.each k b is);
}

-- a line after the first one may stand anywhere
pub opened : (h : Inn) (H : History) (x : Line) → IsLegal h H → IsTrue (opens H x)
opened h H x legal = rw (lt-ltb 0 (length H) legal.some_line) refl

-- one of the numbers, as it is read
pub number_read : (f : ℕ → ℕ) (n i read : ℕ) (numbers_are : List ℕ) → numbers_are ≡ map f (numbers n) → i < n → read ≡ get_or numbers_are i read → read ≡ f i
number_read f n i read xs are within is = is ∙ ap (λ l. get_or l i read) are ∙ get_or-map-range_with_len f 0 n i i read within (omega arith)
