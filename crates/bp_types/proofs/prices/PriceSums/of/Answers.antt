use Rattle.std.proofs.Common.{◌≡◌, ◌-◌, ◌+◌, ◌<◌, ◌∙◌, sym, arith, length, length-set}
use Rattle.std.proofs.lemmas.List.{get_or-replicate}
use Rattle.bp_types.specs.declared.limits.TheConstants.{MOST_NODES}
use Rattle.bp_types.specs.Optimum.{price_from}
use Rattle.bp_types.proofs.Suffixes.{price_from-past}
use Rattle.bp_types.proofs.PriceLemmas.{one_more_sum, one_more_made}
use Rattle.bp_types.proofs.prices.PriceSums.of.Goals as goal

pub loop-gone-init : goal.loop-gone-init
loop-gone-init c = record {
  size = omega arith;
  small = omega arith;
  sum = sym (price_from-past c.args.prices.now (length c.args.prices.now - 0) (omega arith));
  made = λ n past within. let in_range : n < MOST_NODES = omega arith in
      get_or-replicate MOST_NODES n 0 0 in_range ∙ sym (price_from-past c.args.prices.now n (omega arith));
}

pub loop-gone-preserved : goal.loop-gone-preserved
loop-gone-preserved c =
    let now = one_more_sum c.args.prices.now c.loop-gone.gone c.loop-gone.sum (omega arith) c.loop-gone.invariant.sum in
    let sum : c.loop-gone.sum + c.from-sum.result ≡ price_from c.args.prices.now (length c.args.prices.now - (c.loop-gone.gone + 1)) = omega (arith, now) in
    record {
      size = length-set _ _ _ ∙ c.loop-gone.invariant.size;
      small = omega (arith, c.loop-gone.invariant.small, c.type_inv.prices (length c.args.prices.now - 1 - c.loop-gone.gone));
      sum = sum;
      made = one_more_made c.args.prices.now c.loop-gone.sums c.loop-gone.gone _ (omega arith) (omega (arith, c.loop-gone.invariant.size))
          sum c.loop-gone.invariant.made;
    }
