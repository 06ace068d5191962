use Rattle.std.proofs.Common.{◌<◌, length, arith}
use Rattle.bp_types.specs.Program.{no_stay}
use Rattle.bp_types.proofs.PriceLemmas.{one_more_surplus}
use Rattle.bp_types.proofs.instance.Instance.stays_value.Goals as goal

pub loop-stay-preserved : goal.loop-stay-preserved
loop-stay-preserved c =
    let in_range : c.loop-stay.stay < length c.args.self.now.stays = omega arith in
    let span = c.stays-stays.ensures.limits.spans c.loop-stay.stay no_stay in_range in (
      one_more_surplus c.args.self.now c.args.prices.now _ c.loop-stay.stay _ _ c.of-sums.ensures (omega (arith, span.0)) (omega (arith, span.1))
          c.loop-stay.invariant.0 c.surplus_value-sum.ensures.value,
      omega (arith, c.loop-stay.invariant.1, c.surplus_value-sum.ensures.fits),
    )
