-- A text in the form of a date is read by its parts.
use Rattle.std.proofs.Common.{◌≡◌, ℕ, Bool, true, false, cond, List, length, slice_index, take, drop, Some, None, refl, eq-eqb}
use Rattle.std.specs.Str.{all_ascii_digits}
use Rattle.bp_hotelfile.specs.Numbers.{number}
use Rattle.bp_hotelfile.specs.Dates.{day_of, day_of_parts}

-- digits that are read
some_digits : (b : Bool) (x y : ℕ) → Some y ≡ cond b (Some x) None → (b ≡ true) × (x ≡ y)
some_digits true x y e = (refl, (cc))
some_digits false x y e = absurd (cc)

pub day_by_parts : (t : List ℕ) (y m d : ℕ) → length t ≡ 10 → slice_index t 4 ≡ 45 → slice_index t 7 ≡ 45 →
    Some y ≡ cond (all_ascii_digits (take 4 t)) (Some (number (take 4 t))) None →
    Some m ≡ cond (all_ascii_digits (take 2 (drop 5 t))) (Some (number (take 2 (drop 5 t)))) None →
    Some d ≡ cond (all_ascii_digits (take 2 (drop 8 t))) (Some (number (take 2 (drop 8 t)))) None →
    day_of t ≡ day_of_parts y m d
day_by_parts t y m d long first second year month day =
    let (year_digits, year_is) = some_digits _ _ _ year in
    let (month_digits, month_is) = some_digits _ _ _ month in
    let (day_digits, day_is) = some_digits _ _ _ day in
    rw (eq-eqb _ _ long, eq-eqb _ _ first, eq-eqb _ _ second, year_digits, month_digits, day_digits, year_is, month_is, day_is)
