use Rattle.std.proofs.Common.{◌≤◌, refl, arith, Some, below_more}
use Rattle.bp_text.proofs.NumberLemmas.{no_digit, next_digit, few_are_small, one_more_digit, digits_are_read}
use Rattle.bp_text.proofs.decimal.few_digits.Goals as goal
use Rattle.bp_text.proofs.decimal.few_digits.Goals.{then-byte-lt48-via-then-byte-lt48, then-byte-lt48-via-else-byte-lt48+then-byte-gt57}

pub loop-byte-init : goal.loop-byte-init
loop-byte-init c = record { digits = λ k h. absurd (omega (arith, h)); number = refl; small = omega arith }

pub returns-then-byte-lt48 : goal.returns-then-byte-lt48
returns-then-byte-lt48 c =
    no_digit c.args.bytes.now c.loop-byte.byte-index c.loop-byte-test.true (λ h.
    elim c.then-byte-lt48.branch [
      | then-byte-lt48-via-then-byte-lt48 w ↦ omega (arith, h.0)
      | then-byte-lt48-via-else-byte-lt48+then-byte-gt57 w ↦ omega (arith, h.1)
    ])

-- the number so far has at most 17 digits, so there is room for one more
pub overflow_mul-value : goal.overflow_mul-value
overflow_mul-value c =
    let few : c.loop-byte.byte-index ≤ 17 = omega (arith, c.loop-byte-test.true, c.requires) in
    omega (arith, few_are_small c.loop-byte.byte-index c.loop-byte.value few c.loop-byte.invariant.small)

pub overflow_add-value : goal.overflow_add-value
overflow_add-value c =
    let few : c.loop-byte.byte-index ≤ 17 = omega (arith, c.loop-byte-test.true, c.requires) in
    omega (arith, few_are_small c.loop-byte.byte-index c.loop-byte.value few c.loop-byte.invariant.small, c.from.ensures, c.if-byte-gt57.false)

pub loop-byte-preserved : goal.loop-byte-preserved
loop-byte-preserved c =
    let more = next_digit c.args.bytes.now c.loop-byte.byte-index c.from.result c.loop-byte-test.true c.from.ensures in
    record {
      digits = below_more _ _ c.loop-byte.invariant.digits (omega arith, omega arith);
      number = omega (arith, more, c.loop-byte.invariant.number);
      small = one_more_digit c.loop-byte.byte-index c.loop-byte.value c.from.result c.loop-byte.invariant.small (omega (arith, c.from.ensures, c.if-byte-gt57.false));
    }

-- all are digits, and their number is known: it is compared
pub returns-then-value-greatest : goal.returns-then-value-greatest
returns-then-value-greatest c =
    let read = digits_are_read c.args.bytes.now c.loop-byte.value c.loop-byte.byte-index (Some c.loop-byte.value) c.loop-byte-test.false
    c.loop-byte.invariant.digits (c.loop-byte.invariant.number, omega arith) in (
      read.0,
      omega (arith, read.1, c.from-value.ensures, c.if-value-greatest.true),
    )

pub returns : goal.returns
returns c =
    let read = digits_are_read c.args.bytes.now c.loop-byte.value c.loop-byte.byte-index (Some c.loop-byte.value) c.loop-byte-test.false
    c.loop-byte.invariant.digits (c.loop-byte.invariant.number, omega arith) in (
      read.0,
      omega (arith, read.1, c.from-value.ensures),
      omega (arith, c.if-value-greatest.false),
    )
