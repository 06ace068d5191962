use Rattle.std.proofs.Common.{◌≡◌, ℕ, ◌-◌, ◌∙◌, arith, length, length-set}
use Rattle.bp_types.specs.declared.stay.Span.{Span}
use Rattle.bp_types.specs.Program.{price}
use Rattle.bp_desk.proofs.Sums.{one_more, price_to_last}
use Rattle.bp_desk.proofs.newest.sum_up.Goals as goal

pub loop-night-preserved : goal.loop-night-preserved
loop-night-preserved c =
    let prices = c.args.board.now.certificate.prices in let night = c.loop-night.night in let sums = c.loop-night.sums in
    let long = c.loop-night.invariant.0 in let same = c.loop-night.auto.sums in
    let span : Span = record { from = night; to = length c.args.sums.now - 1 } in
    let is : c.price.result ≡ price prices span = c.price.ensures in (
      omega (arith, long, length-set {A = ℕ}),
      one_more prices sums night c.price.result (omega (arith, same)) (is ∙
          price_to_last prices span (omega arith) (omega (arith, long, same))) c.loop-night.invariant.1,
    )
