use Rattle.std.proofs.Common.{◌∙◌, arith}
use Rattle.bp_types.specs.declared.stay.Span.{Span}
use Rattle.bp_core.specs.Lines.{last_prices}
use Rattle.bp_desk.proofs.Sums.{one_more, price_to_last}
use Rattle.bp_show.proofs.sums.sum_pass.Goals as goal

pub loop-night-preserved : goal.loop-night-preserved
loop-night-preserved c =
    let prices = last_prices c.args.pass.now.seen in
    let night = c.loop-night.night in
    let span : Span = record { from = night; to = c.args.nights } in
    one_more prices c.loop-night.sums night c.quote-rest.result.sum (omega arith) (c.quote-rest.ensures.sum ∙
    price_to_last prices span (omega arith) (omega (arith, c.requires.prices))) c.loop-night.invariant
