-- A day has one text: dates with one day number have the same parts, and digits are told by the number that they write.
use Rattle.std.proofs.Common.{
  ◌≡◌,
  ◌∙◌,
  sym,
  ap,
  subst,
  refl,
  ℕ,
  ◌+◌,
  ◌-◌,
  ◌*◌,
  ◌≤◌,
  Bool,
  true,
  false,
  cond,
  List,
  [],
  ◌∷◌,
  ◌++◌,
  length,
  take,
  drop,
  slice_index,
  slice_range,
  Option,
  Some,
  None,
  arith,
  pos,
  ◌+ℤ◌,
  drop-cons,
}
use Rattle.std.proofs.lemmas.Bool.{and_parts, leb-true, eqb-true}
use Rattle.std.proofs.lemmas.List.{take_all, length-drop, length-take-le}
use Rattle.std.proofs.lemmas.List.Folds.{drop_split}
use Rattle.std.proofs.lemmas.Str.Parse.{tells_all_ascii_digits}
use Rattle.std.specs.Str.{all_ascii_digits}
use Rattle.jiff_core.specs.declared.civil.date.Date.{Date}
use Rattle.jiff_core.specs.Calendar.{days_in_month}
use Rattle.jiff_core.specs.Date.{epoch_day}
use Rattle.jiff_core.proofs.SignedLemmas.{signed_arith, one_part, unsigned_abs-parts}
use Rattle.jiff_core.proofs.DateLemmas.{epoch_day_injective, epoch_day_range}
use Rattle.bp_hotelfile.specs.Numbers.{number, number_after, is_between}
use Rattle.bp_hotelfile.specs.Dates.{day_of, day_number, is_civil_day, has_date_form}
use Rattle.bp_hotelfile.specs.Laws.{DaysHaveOneText}

-- as many digits that write one number behind the same are the same digits
digits_from : (n m : ℕ) (a b : List ℕ) → all_ascii_digits a ≡ true → all_ascii_digits b ≡ true → length a ≡ length b →
    number_after n a ≡ number_after m b → (n ≡ m) × (a ≡ b)
digits_from n m [] [] da db long e = (e, refl)
digits_from n m [] (d ∷ ds) da db long e = absurd (omega arith)
digits_from n m (c ∷ cs) [] da db long e = absurd (omega arith)
digits_from n m (c ∷ cs) (d ∷ ds) da db long e =
    let p = tells_all_ascii_digits.parts c cs da in
    let q = tells_all_ascii_digits.parts d ds db in
    let rest = digits_from (10 * n + (c - 48)) (10 * m + (d - 48)) cs ds p.1 q.1 (omega arith) e in
    let same : c ≡ d = omega (arith, rest.0) in
    (omega (arith, rest.0), ap (λ x. x ∷ cs) same ∙ ap (λ xs. d ∷ xs) rest.1)

digits_told : (a b : List ℕ) → all_ascii_digits a ≡ true → all_ascii_digits b ≡ true → length a ≡ length b → number a ≡ number b → a ≡ b
digits_told a b da db long e = (digits_from 0 0 a b da db long e).1

some_where : (b : Bool) (x : Option ℕ) (day : ℕ) → cond b x None ≡ Some day → (b ≡ true) × (x ≡ Some day)
some_where true x day e = (refl, e)
some_where false x day e = absurd (cc)

within : (least most n : ℕ) → is_between least most n ≡ true → (least ≤ n) × (n ≤ most)
within least most n e = let (low, high) = and_parts _ _ e in (leb-true least n low, leb-true n most high)

-- the calendar's date of these parts
record IsCivil (y m d : ℕ) : Type 0 where
  year : (1 ≤ y) × (y ≤ 9999)
  month : (1 ≤ m) × (m ≤ 12)
  day : (1 ≤ d) × (d ≤ days_in_month (pos y) m)

civil : (y m d : ℕ) → is_civil_day y m d ≡ true → IsCivil y m d
civil y m d e =
    let (both, day) = and_parts _ _ e in
    let (year, month) = and_parts _ _ both in
    record { year = within 1 9999 y year; month = within 1 12 m month; day = within 1 (days_in_month (pos y) m) d day }

abbrev date_of : (y m d : ℕ) → IsCivil y m d → Date
date_of y m d is = record {
  year = pos y;
  month = m;
  day = d;
  year_in = (omega (arith, signed_arith), omega (arith, signed_arith));
  month_in = is.month;
  day_in = is.day;
}

-- dates with one day number have the same parts
same_parts : (y m d y₂ m₂ d₂ : ℕ) → IsCivil y m d → IsCivil y₂ m₂ d₂ → day_number y m d ≡ day_number y₂ m₂ d₂ →
    (y ≡ y₂) × (m ≡ m₂) × (d ≡ d₂)
same_parts y m d y₂ m₂ d₂ is are e =
    let a = date_of y m d is in
    let b = date_of y₂ m₂ d₂ are in
    let first = one_part (epoch_day a +ℤ pos 4_371_587) in
    let second = one_part (epoch_day b +ℤ pos 4_371_587) in
    let days : epoch_day a ≡ epoch_day b =
    omega (arith, signed_arith, unsigned_abs-parts, epoch_day_range a, epoch_day_range b, first, second, e) in
    let same = epoch_day_injective a b days in
    let year : pos y ≡ pos y₂ = same.0 in
    ((cc), same.1, same.2)

-- what a text of a day is: three runs of digits, and two dashes
record Reads (t : List ℕ) (day : ℕ) : Type 0 where
  long : length t ≡ 10
  first : slice_index t 4 ≡ 45
  second : slice_index t 7 ≡ 45
  year : all_ascii_digits (slice_range t 0 4) ≡ true
  month : all_ascii_digits (slice_range t 5 7) ≡ true
  ones : all_ascii_digits (slice_range t 8 10) ≡ true
  civil : IsCivil (number (slice_range t 0 4)) (number (slice_range t 5 7)) (number (slice_range t 8 10))
  number_is : day_number (number (slice_range t 0 4)) (number (slice_range t 5 7)) (number (slice_range t 8 10)) ≡ day

reads : (t : List ℕ) (day : ℕ) → day_of t ≡ Some day → Reads t day
reads t day e =
    let (form, parts) = some_where (has_date_form t) _ day e in
    let (civil_is, number_is) = some_where (is_civil_day (number (slice_range t 0 4)) (number (slice_range t 5 7)) (number (slice_range t 8 10))) _ day parts in
    let (f5, ones) = and_parts _ _ form in
    let (f4, month) = and_parts _ _ f5 in
    let (f3, year) = and_parts _ _ f4 in
    let (f2, second) = and_parts _ _ f3 in
    let (long, first) = and_parts _ _ f2 in
    record {
      long = eqb-true (length t) 10 long;
      first = eqb-true (slice_index t 4) 45 first;
      second = eqb-true (slice_index t 7) 45 second;
      year = year;
      month = month;
      ones = ones;
      civil = civil _ _ _ civil_is;
      number_is = (cc);
    }

-- three texts, and a dash between them
abbrev joined : List ℕ → List ℕ → List ℕ → List ℕ
joined y m d = y ++ (45 ∷ (m ++ (45 ∷ d)))

-- such a text is put together of its parts
together : (t : List ℕ) (day : ℕ) → Reads t day → t ≡ joined (slice_range t 0 4) (slice_range t 5 7) (slice_range t 8 10)
together t day r =
    let year : t ≡ slice_range t 0 4 ++ drop 4 t = drop_split t 0 4 (omega arith) in
    let dash : drop 4 t ≡ 45 ∷ drop 5 t = drop-cons t 4 0 (omega (arith, r.long)) ∙ ap (λ x. x ∷ drop 5 t) r.first in
    let month : drop 5 t ≡ slice_range t 5 7 ++ drop 7 t = drop_split t 5 7 (omega arith) in
    let second : drop 7 t ≡ 45 ∷ drop 8 t = drop-cons t 7 0 (omega (arith, r.long)) ∙ ap (λ x. x ∷ drop 8 t) r.second in
    let ones : drop 8 t ≡ slice_range t 8 10 = sym (take_all 2 (drop 8 t) (omega (arith, length-drop 8 t, r.long))) in
    let third : drop 7 t ≡ 45 ∷ slice_range t 8 10 = second ∙ ap (λ (x : List ℕ). 45 ∷ x) ones in
    let last : drop 5 t ≡ slice_range t 5 7 ++ (45 ∷ slice_range t 8 10) = month ∙ ap (λ (x : List ℕ). slice_range t 5 7 ++ x) third in
    let rest : drop 4 t ≡ 45 ∷ (slice_range t 5 7 ++ (45 ∷ slice_range t 8 10)) = dash ∙ ap (λ (x : List ℕ). 45 ∷ x) last in
    year ∙ ap (λ (x : List ℕ). slice_range t 0 4 ++ x) rest

-- so many of a text's bytes
run : (t : List ℕ) (at n : ℕ) → at + n ≤ length t → length (take n (drop at t)) ≡ n
run t at n fits = length-take-le n (drop at t) (omega (arith, length-drop at t))

-- the runs of two texts are as long as each other
runs : (a b : List ℕ) (at n : ℕ) → length a ≡ 10 → length b ≡ 10 → at + n ≤ 10 → length (take n (drop at a)) ≡ length (take n (drop at b))
runs a b at n long too fits = omega (arith, run a at n (omega arith), run b at n (omega arith))

one : (day : ℕ) (a b : List ℕ) → day_of a ≡ Some day → day_of b ≡ Some day → a ≡ b
one day a b at bt =
    let p = reads a day at in
    let q = reads b day bt in
    let same = same_parts _ _ _ _ _ _ p.civil q.civil (p.number_is ∙ sym q.number_is) in
    let year : slice_range a 0 4 ≡ slice_range b 0 4 = digits_told _ _ p.year q.year (runs a b 0 4 p.long q.long (omega arith)) same.0 in
    let month : slice_range a 5 7 ≡ slice_range b 5 7 = digits_told _ _ p.month q.month (runs a b 5 2 p.long q.long (omega arith)) same.1 in
    let ones : slice_range a 8 10 ≡ slice_range b 8 10 = digits_told _ _ p.ones q.ones (runs a b 8 2 p.long q.long (omega arith)) same.2 in
    let years : joined (slice_range a 0 4) (slice_range a 5 7) (slice_range a 8 10) ≡ joined (slice_range b 0 4) (slice_range a 5 7) (slice_range a 8 10) =
    ap (λ (y : List ℕ). joined y (slice_range a 5 7) (slice_range a 8 10)) year in
    let months : joined (slice_range b 0 4) (slice_range a 5 7) (slice_range a 8 10) ≡ joined (slice_range b 0 4) (slice_range b 5 7) (slice_range a 8 10) =
    ap (λ (m : List ℕ). joined (slice_range b 0 4) m (slice_range a 8 10)) month in
    let days : joined (slice_range b 0 4) (slice_range b 5 7) (slice_range a 8 10) ≡ joined (slice_range b 0 4) (slice_range b 5 7) (slice_range b 8 10) =
    ap (λ (d : List ℕ). joined (slice_range b 0 4) (slice_range b 5 7) d) ones in
    together a day p ∙ (years ∙ (months ∙ (days ∙ sym (together b day q))))

some_same : (o : Option ℕ) (x y : ℕ) → o ≡ Some x → o ≡ Some y → x ≡ y
some_same o x y a b = cc

pub days_have_one_text : DaysHaveOneText
days_have_one_text = record {
  one = one;
  two = λ day later a b apart at bt same. apart (some_same (day_of b) day later (subst (λ (t : List ℕ). day_of t ≡ Some day) same at) bt);
}
