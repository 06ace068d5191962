use Rattle.std.proofs.Common.{◌≢◌, ◌<◌, ◌∙◌, length, arith, below_more, get_or-set_same, get_or-set_other}
use Rattle.std.proofs.Math.ListN.{length-set}
use Rattle.bp_report.proofs.dates.dates_of.Goals as goal

pub loop-night-preserved : goal.loop-night-preserved
loop-night-preserved c =
    let so_far = c.loop-night.invariant in
    let lt : c.loop-night.night < length c.loop-night.dates =
    omega (arith, so_far.size, c.nights-night-end.ensures.value, c.nights-night-end.ensures.limits.nights) in
    record {
      size = length-set c.loop-night.dates c.loop-night.night c.date_of.result ∙ so_far.size;
      dates = below_more _ _
          (λ k h. let ne : k ≢ c.loop-night.night = omega arith in rw get_or-set_other (so_far.dates k h))
          (rw get_or-set_same c.date_of.ensures);
    }
