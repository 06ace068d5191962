use Rattle.std.proofs.Common.{◌≡◌, ◌<◌, ◌+◌, ◌∙◌, ap, get_or, length, arith}
use Rattle.std.proofs.lemmas.Str.{IsUtf8-drop, IsCharBoundary-after_ascii, IsCharBoundary-from_drop}
use Rattle.bp_stayfile.proofs.FieldLemmas.{front_more}
use Rattle.bp_stayfile.proofs.tables.fields.without_front.Goals as goal

pub range_from-requires : goal.range_from-requires
range_from-requires c _ =
    IsCharBoundary-from_drop c.args.text.now c.loop-place.place (omega (arith, ap (λ t. length t) c.as_bytes-bytes.ensures.value)) c.loop-place.invariant.text

pub loop-place-preserved : goal.loop-place-preserved
loop-place-preserved c =
    let here : get_or c.args.text.now c.loop-place.place 0 ≡ 32 = rw (← c.as_bytes-bytes.ensures.value) c.if-bytes-place-ne32.false in
    let below : c.loop-place.place < length c.args.text.now = rw (← c.as_bytes-bytes.ensures.value) c.loop-place-test.true in
    record {
      rest = c.loop-place.invariant.rest ∙ front_more c.args.text.now c.loop-place.place below here;
      text = IsUtf8-drop c.args.text.now (c.loop-place.place + 1) c.utf8.text
          (IsCharBoundary-after_ascii c.args.text.now c.loop-place.place c.utf8.text below (omega (arith, here)));
    }
