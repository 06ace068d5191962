use Rattle.std.proofs.Common.{◌≡◌, ◌<◌, length, slice_index, arith}
use Rattle.bp_text.proofs.NumberLemmas.{word_is_read}
use Rattle.bp_text.proofs.FormLemmas.{not_empty}
use Rattle.bp_text.proofs.decimal.number.Goals as goal
use Rattle.bp_text.proofs.decimal.number.Goals.{else-word-gt1-via-then-word-gt1+else-word-eq48, else-word-gt1-via-else-word-gt1}

-- a digit at least, and no zero before the number
pub returns : goal.returns
returns c =
    word_is_read c.args.word.now c.args.greatest c.digits.result (not_empty _ _ c.is_empty.ensures c.if-is_empty.false)
    (λ (long : 1 < length c.args.word.now) (zero_first : slice_index c.args.word.now 0 ≡ 48).
    elim c.else-word-gt1.branch [
      | else-word-gt1-via-then-word-gt1+else-word-eq48 w ↦ absurd (w.if-word-eq48.false zero_first)
      | else-word-gt1-via-else-word-gt1 w ↦ omega (arith, w.if-word-gt1.false, long)
    ]) c.digits.ensures
