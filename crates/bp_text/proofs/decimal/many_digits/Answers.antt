use Rattle.std.proofs.Common.{◌≡◌, ℕ, ◌<◌, ◌≤◌, arith, Option, below_more, subst}
use Rattle.std.specs.Option.{MatchOption}
use Rattle.std.specs.Str.Parse.{AllDigits, digits_value}
use Rattle.bp_text.proofs.NumberLemmas.{no_digit, next_digit, digit_more, digits_are_read}
use Rattle.bp_text.proofs.decimal.many_digits.Goals as goal
use Rattle.bp_text.proofs.decimal.many_digits.Goals.{then-byte-lt48-via-then-byte-lt48, then-byte-lt48-via-else-byte-lt48+then-byte-gt57}

pub returns-then-byte-lt48 : goal.returns-then-byte-lt48
returns-then-byte-lt48 c =
    no_digit c.args.bytes.now c.loop-byte.byte-index c.loop-byte-test.true (λ h.
    elim c.then-byte-lt48.branch [
      | then-byte-lt48-via-then-byte-lt48 w ↦ omega (arith, h.0)
      | then-byte-lt48-via-else-byte-lt48+then-byte-gt57 w ↦ omega (arith, h.1)
    ])

pub loop-byte-preserved : goal.loop-byte-preserved
loop-byte-preserved c =
    let more = next_digit c.args.bytes.now c.loop-byte.byte-index c.from.result c.loop-byte-test.true c.from.ensures in
    record {
      digits = below_more _ _ c.loop-byte.invariant.digits (omega arith, omega arith);
      number = digit_more c.args.greatest c.from.result _ _ c.loop-byte.value c.with_digit-value.result more c.with_digit-value.ensures
          c.loop-byte.invariant.number;
    }

pub returns-in-Some : goal.returns-in-Some
returns-in-Some c =
    let bytes = c.args.bytes.now in
    let P : Option ℕ → Type 0 =
    λ v. MatchOption v (AllDigits 10 bytes × (c.args.greatest < digits_value 10 bytes)) (λ n. AllDigits 10 bytes × (n ≡ digits_value 10 bytes) ×
    (n ≤ c.args.greatest)) in
    subst P c.in-Some.is (digits_are_read bytes c.args.greatest c.loop-byte.byte-index c.loop-byte.value c.loop-byte-test.false c.loop-byte.invariant.digits
    c.loop-byte.invariant.number)

pub returns-in-None : goal.returns-in-None
returns-in-None c =
    let bytes = c.args.bytes.now in
    let P : Option ℕ → Type 0 =
    λ v. MatchOption v (AllDigits 10 bytes × (c.args.greatest < digits_value 10 bytes)) (λ n. AllDigits 10 bytes × (n ≡ digits_value 10 bytes) ×
    (n ≤ c.args.greatest)) in
    subst P c.in-None.is (digits_are_read bytes c.args.greatest c.loop-byte.byte-index c.loop-byte.value c.loop-byte-test.false c.loop-byte.invariant.digits
    c.loop-byte.invariant.number)
