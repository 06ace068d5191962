use Rattle.std.proofs.Common.{◌≡◌, ℕ, ◌*◌, ◌^◌, ◌≤◌, ◌-◌, length, slice_index}
use Rattle.bp_types.specs.declared.limits.TheConstants.{MOST_NODES}
use Rattle.bp_types.specs.Optimum.{price_from}
use Rattle.bp_types.proofs.prices.PriceSums.of.Given as goal

-- the sums of the last nights are made
abbrev pub invariant-loop-gone : goal.invariant-loop-gone
invariant-loop-gone l = record {
  size : length l.sums ≡ MOST_NODES;
  small : l.sum ≤ 2 ^ 64 * l.gone;
  sum : l.sum ≡ price_from l.prices (l.nights - l.gone);
  made : (n : ℕ) → l.nights - l.gone ≤ n → n ≤ l.nights → slice_index l.sums n ≡ price_from l.prices n;
}
