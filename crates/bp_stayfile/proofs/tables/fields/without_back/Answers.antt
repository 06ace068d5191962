use Rattle.std.proofs.Common.{◌≡◌, ◌<◌, ◌+◌, ◌-◌, ◌∙◌, sym, ap, get_or, length, arith}
use Rattle.std.proofs.lemmas.Str.{IsUtf8-take, IsCharBoundary-before_ascii, IsCharBoundary-from_take}
use Rattle.bp_stayfile.proofs.FieldLemmas.{back_more}
use Rattle.bp_stayfile.proofs.tables.fields.without_back.Goals as goal

pub range-requires-clause-end_boundary : goal.range-requires-clause-end_boundary
range-requires-clause-end_boundary c =
    rw c.as_bytes-bytes.ensures.value
    (IsCharBoundary-from_take c.args.text.now (length c.args.text.now - c.loop-spaces.spaces) c.utf8.text (omega arith) c.loop-spaces.invariant.text)

pub loop-spaces-preserved : goal.loop-spaces-preserved
loop-spaces-preserved c =
    let t = c.args.text.now in
    let i = length t - (c.loop-spaces.spaces + 1) in
    let below : c.loop-spaces.spaces < length t = rw (← c.as_bytes-bytes.ensures.value) c.loop-spaces-test.true in
    let same : length t - 1 - c.loop-spaces.spaces ≡ i = omega arith in
    let here : get_or t i 0 ≡ 32 = ap (λ k. get_or t k 0) (sym same) ∙ rw c.as_bytes-bytes.ensures.value at c.if-bytes-spaces-ne32.false in
    record {
      rest = c.loop-spaces.invariant.rest ∙ back_more t i (length t - c.loop-spaces.spaces) (omega arith) (omega arith) here;
      text = IsUtf8-take t i c.utf8.text (IsCharBoundary-before_ascii t i (omega arith) (omega (arith, here)));
    }
