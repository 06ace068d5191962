use Rattle.std.proofs.Common.{◌≡◌, ◌<◌, ℕ}
use Rattle.std.specs.Prelude.{slice_index}
use Rattle.bp_types.specs.Optimum.{price_from}
use Rattle.bp_core.specs.Lines.{last_prices}
use Rattle.bp_show.proofs.sums.sum_pass.Given as goal

-- the sums of the nights so far
abbrev pub invariant-loop-night : goal.invariant-loop-night
invariant-loop-night l = (n : ℕ) → n < l.night → slice_index l.sums n ≡ price_from (last_prices l.pass.seen) n
