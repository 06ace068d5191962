-- The text of a day, and the years that its days lie in.
use Rattle.std.proofs.Common.{◌≡◌, ℕ, ◌+◌, ◌*◌, ◌/◌, ◌%◌, ◌≤◌, true, [], ◌∷◌, le-leb, Some, refl, arith, ℤ, pos, ◌+ℤ◌, ◌≤ℤ◌, unsigned_abs}
use Rattle.std.proofs.Common.{rules, negsuc, to_z, of_z, w16, Fits}
use lib.Dec.{T}
use lib.Signed.{non_neg}
use Rattle.std.specs.Int.{IsInRange}
use Rattle.std.proofs.lemmas.Int.{by_lt_z}
use Rattle.std.specs.Char.{is_ascii_digit}
use Rattle.jiff_core.specs.declared.civil.date.Date.{Date}
use Rattle.jiff_core.specs.Calendar.{day_count, days_from_civil, days_in_month}
use Rattle.jiff_core.specs.Date.{epoch_day}
use Rattle.jiff_core.proofs.SignedLemmas.{signed_arith, back_small}
use Rattle.jiff_core.proofs.MarchLemmas.{day_count-early}
use Rattle.jiff_core.proofs.CalendarLemmas.{days_from_civil-day_count, day_count-lt_year}
use Rattle.jiff_core.proofs.DateLemmas.{civil}
use Rattle.bp_hotelfile.specs.Numbers.{number, is_between}
use Rattle.bp_hotelfile.specs.Dates.{day_of, day_of_parts}

pub first_of_year_one : day_count (pos 1) 1 1 ≡ 3_652_791
first_of_year_one = day_count-early (pos 1) 10000 1 1 refl (omega arith) (omega arith) (omega arith)

-- a day from 0001-01-01 on is of a year from 1 on
pub year_from_one : (d : Date) (day : ℕ) → epoch_day d +ℤ pos 4_371_587 ≡ pos day → 3_652_425 ≤ day → pos 1 ≤ℤ d.year
year_from_one d day e late =
    by_lt_z d.year (pos 1)
    (λ lt. absurd (omega (
      arith,
      signed_arith,
      days_from_civil-day_count d.year d.month d.day,
      day_count-lt_year d.year d.month d.day (pos 1) 1 1 (civil d) (omega arith) lt,
      first_of_year_one,
    )))
    (λ le. le)

pub between : (least most n : ℕ) → least ≤ n → n ≤ most → is_between least most n ≡ true
between least most n low high = rw (le-leb least n low, le-leb n most high)

digit : (c : ℕ) → 48 ≤ c → c ≤ 57 → is_ascii_digit c ≡ true
digit c low high = between 48 57 c low high

-- ten characters that write a date are read as it
pub day_of_text : (y m d a b e f g h i j : ℕ) →
    (48 ≤ a) × (a ≤ 57) → (48 ≤ b) × (b ≤ 57) → (48 ≤ e) × (e ≤ 57) → (48 ≤ f) × (f ≤ 57) →
    (48 ≤ g) × (g ≤ 57) → (48 ≤ h) × (h ≤ 57) → (48 ≤ i) × (i ≤ 57) → (48 ≤ j) × (j ≤ 57) →
    10 * a + b ≡ y / 100 + 528 → 10 * e + f ≡ y % 100 + 528 → 10 * g + h ≡ m + 528 → 10 * i + j ≡ d + 528 →
    day_of (a ∷ b ∷ e ∷ f ∷ 45 ∷ g ∷ h ∷ 45 ∷ i ∷ j ∷ []) ≡ day_of_parts y m d
day_of_text y m d a b e f g h i j da db de df dg dh di dj hundreds rest month day =
    let year_is : number (a ∷ b ∷ e ∷ f ∷ []) ≡ y = omega arith in
    let month_is : number (g ∷ h ∷ []) ≡ m = omega arith in
    let day_is : number (i ∷ j ∷ []) ≡ d = omega arith in
    rw (
      digit a da.0 da.1,
      digit b db.0 db.1,
      digit e de.0 de.1,
      digit f df.0 df.1,
      digit g dg.0 dg.1,
      digit h dh.0 dh.1,
      digit i di.0 di.1,
      digit j dj.0 dj.1,
      year_is,
      month_is,
      day_is,
    )

-- a year from 1 to 9999, as a number of sixteen bits
pub cast_of_year : (z : ℤ) → pos 1 ≤ℤ z → z ≤ℤ pos 9999 → T (non_neg (to_z w16 (of_z w16 z))) × Fits w16 (unsigned_abs (to_z w16 (of_z w16 z)))
cast_of_year (pos n) low high = rw (back_small w16 (pos n) (omega (arith, signed_arith))) (search rules)
cast_of_year (negsuc n) low high = absurd (omega (arith, signed_arith))

pub year_comes_back : (z : ℤ) → pos 1 ≤ℤ z → z ≤ℤ pos 9999 → unsigned_abs (to_z w16 (of_z w16 z)) ≡ unsigned_abs z
year_comes_back (pos n) low high = rw (back_small w16 (pos n) (omega (arith, signed_arith)))
year_comes_back (negsuc n) low high = absurd (omega (arith, signed_arith))

-- the parts of a date are read as its day
pub day_of_date : (z : ℤ) (m d day : ℕ) → pos 1 ≤ℤ z → z ≤ℤ pos 9999 → IsInRange 1 12 m → IsInRange 1 (days_in_month z m) d →
    days_from_civil z m d +ℤ pos 4_371_587 ≡ pos day → day_of_parts (unsigned_abs z) m d ≡ Some day
day_of_date (pos y) m d day low high month date e =
    rw (
      between 1 9999 y (omega (arith, signed_arith)) (omega (arith, signed_arith)),
      between 1 12 m month.0 month.1,
      between 1 (days_in_month (pos y) m) d date.0 date.1,
      e,
    )
day_of_date (negsuc y) m d day low high month date e = absurd (omega (arith, signed_arith))
