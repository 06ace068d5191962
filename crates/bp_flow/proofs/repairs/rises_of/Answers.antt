use Rattle.std.proofs.Common.{◌≡◌, ℕ, ◌+◌, ◌-◌, ◌∙◌, sym, arith}
use Rattle.bp_types.specs.Sums.{sum_below}
use Rattle.bp_flow.specs.Rising.{rise_of, prior}
use Rattle.bp_flow.specs.Solvers.{lack_at}
use Rattle.bp_flow.proofs.Rising.{sum_next, prior_next}
use Rattle.bp_flow.proofs.repairs.rises_of.Goals as goal

pub loop-night-preserved : goal.loop-night-preserved
loop-night-preserved c =
    let here = c.loop-night.invariant in
    let n = c.loop-night.night in
    let f : ℕ → ℕ = lack_at c.args.up c.args.flow.now.flow.program.rooms c.args.instance.now.rooms in
    let lack : c.lacking_at-lack.result ≡ f n = c.lacking_at-lack.ensures.value in
    let rise = c.saturating_sub-rise.ensures in
    let next : sum_below (rise_of f) (n + 1) ≡ sum_below (rise_of f) n + (f n - prior f n) = sum_next (rise_of f) n in
    record {
      sum = omega (arith, next, here.sum, here.before, lack, rise);
      before = lack ∙ sym (prior_next f n);
      few = omega (arith, here.few, c.lacking_at-lack.ensures.few, rise);
    }
