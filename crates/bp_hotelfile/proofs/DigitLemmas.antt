-- Decimal digits and the number that they write.
use Rattle.std.proofs.Common.{◌≡◌, ◌∙◌, sym, ap, refl, ℕ, ◌+◌, ◌-◌, ◌*◌, ◌^◌, ◌≤◌, true, cond, List, length, Option, Some, None, arith, inl, inr}
use Rattle.std.specs.Str.{all_ascii_digits}
use Rattle.std.proofs.lemmas.Bool.{cases_Bool}
use Rattle.std.proofs.lemmas.Str.Parse.{IsNumeralModel, FoldsDigits, numerals_by_fold, tells_all_ascii_digits, digits_value_short}
use Rattle.bp_text.specs.declared.found.Number.TheVariants.{Bad, Great, Value}
use Rattle.bp_text.specs.Numbers.{AreReadAs}
use Rattle.bp_hotelfile.specs.Numbers.{number, number_after}

-- whether bytes are digits, and the number that they write
abbrev pub number_read : List ℕ → Option ℕ
number_read bytes = cond (all_ascii_digits bytes) (Some (number bytes)) None

digits_fold : FoldsDigits number_after
digits_fold = record {
  empty = λ n. refl;
  more = λ n c cs digit. let order : 10 * n + (c - 48) ≡ n * 10 + (c - 48) = omega arith in ap (λ m. number_after m cs) order;
}

numerals : IsNumeralModel (λ ds. all_ascii_digits ds ≡ true) (number_after 0)
numerals = numerals_by_fold (λ ds. all_ascii_digits ds ≡ true) tells_all_ascii_digits number_after digits_fold

pub value_read : (bytes : List ℕ) (greatest n : ℕ) → AreReadAs bytes greatest (Value n) → Some n ≡ number_read bytes
value_read bytes greatest n read =
    let all : all_ascii_digits bytes ≡ true = numerals.from bytes read.0 in
    let same : number bytes ≡ n = numerals.same bytes read.0 ∙ sym read.1 in
    rw (all, same) refl

pub bad_read : (bytes : List ℕ) (greatest : ℕ) → AreReadAs bytes greatest Bad → None ≡ number_read bytes
bad_read bytes greatest read = elim (cases_Bool (all_ascii_digits bytes)) [
  | inl all ↦ absurd (read (numerals.to bytes all))
  | inr not_all ↦ rw not_all refl
]

-- so few digits write no number above so many nines
pub none_too_great : (bytes : List ℕ) (count : ℕ) → length bytes ≤ count → AreReadAs bytes (10 ^ count - 1) Great → ⊥
none_too_great bytes count few read =
    let all : all_ascii_digits bytes ≡ true = numerals.from bytes read.0 in
    omega (arith, digits_value_short numerals bytes count all few, numerals.same bytes read.0, read.1)
