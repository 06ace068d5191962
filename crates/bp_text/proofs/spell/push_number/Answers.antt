use Rattle.std.proofs.Common.{◌++◌, ◌^◌, ◌<◌, ◌∙◌, ap, sym, arith}
use Rattle.bp_text.proofs.NumberLemmas.{spelled-decimal}
use Rattle.bp_text.proofs.spell.push_number.Goals as goal

pub returns : goal.returns
returns c =
    let small : c.args.number < 10 ^ 64 = omega (arith, c.ranges.number.fits) in
    c.in_ok-extend_from_slice.ensures.items ∙
    ap (λ xs. c.args.text.now.items ++ xs) (c.as_bytes.ensures.value ∙ c.format.ensures.text ∙ sym (spelled-decimal c.args.number small))
