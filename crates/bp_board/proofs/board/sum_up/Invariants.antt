use Rattle.std.proofs.Common.{◌≡◌, ℕ, ◌*◌, ◌≤◌, ◌-◌, slice_index}
use Rattle.bp_types.specs.declared.limits.TheConstants.{MOST_PRICE}
use Rattle.bp_types.specs.Optimum.{price_from}
use Rattle.bp_board.proofs.board.sum_up.Given as goal

-- the sums of the last nights are made
abbrev pub invariant-loop-gone : goal.invariant-loop-gone
invariant-loop-gone l = record {
  small : l.sum ≤ MOST_PRICE * l.gone;
  sum : l.sum ≡ price_from l.prices (l.nights - l.gone);
  made : (n : ℕ) → l.nights - l.gone ≤ n → n ≤ l.nights → slice_index l.sums n ≡ price_from l.prices n;
}
