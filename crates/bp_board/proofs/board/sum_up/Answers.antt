use Rattle.std.proofs.Common.{◌-◌, ◌≤◌, arith, ℕ, length, length-set, slice_index}
use Rattle.bp_types.specs.declared.limits.TheConstants.{MOST_PRICE}
use Rattle.bp_types.proofs.PriceLemmas.{one_more_sum, one_more_made}
use Rattle.bp_board.proofs.board.sum_up.Goals as goal

pub loop-gone-preserved : goal.loop-gone-preserved
loop-gone-preserved c =
    let now = one_more_sum c.args.prices.now c.loop-gone.gone c.loop-gone.sum (omega arith) c.loop-gone.invariant.sum in
    let small : slice_index c.args.prices.now (length c.args.prices.now - 1 - c.loop-gone.gone) ≤ MOST_PRICE =
    c.requires.within_limit (length c.args.prices.now - 1 - c.loop-gone.gone) 0 (omega arith) in
    record {
      small = omega (arith, c.loop-gone.invariant.small, small);
      sum = now;
      made = one_more_made c.args.prices.now c.loop-gone.sums c.loop-gone.gone _ (omega arith) (omega (arith, c.loop-gone.auto.sums, length-set {A = ℕ}))
          now c.loop-gone.invariant.made;
    }
