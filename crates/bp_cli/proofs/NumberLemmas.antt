-- Numbers of 1 to 9 digits, as std reads them.
use Rattle.std.proofs.Common.{◌≡◌, ℕ, ◌<◌, ◌≤◌, ◌^◌, arith, List, length, MatchOption}
use Rattle.std.specs.Prelude.{Result, Ok, Err}
use Rattle.std.specs.Result.{OkIff, result_ok}
use Rattle.std.specs.Str.Parse.{AllDigits, digits_value}
use Rattle.std.proofs.lemmas.Str.Parse.{IsNumeralModel, numerals_by_value, tells_digits, digits_value_short}
use Rattle.bp_cli.specs.Words.{IsNumber}

-- decimal digits, as std reads them
pub numerals : IsNumeralModel (AllDigits 10) (digits_value 10)
numerals = numerals_by_value (AllDigits 10) tells_digits

-- a number of 1 to 9 digits is what is read of them
pub number_read : {E : Type 0} (bs : List ℕ) (r : Result ℕ E) → length bs ≤ 9 →
    OkIff r (AllDigits 10 bs × (0 < length bs) × (digits_value 10 bs < 2 ^ 32)) (digits_value 10 bs)
    → MatchOption (result_ok r) ((n : ℕ) → IsNumber bs n → ⊥) (IsNumber bs)
number_read bs (Ok n) short is = record { digits = (is.0.1, is.0.0); short = short; value = is.1 }
number_read bs (Err e) short none = λ n number.
    none (number.digits.1, number.digits.0, omega (arith, digits_value_short numerals bs 9 number.digits.1 short))
