use Rattle.std.proofs.Common.{get_or, None, length, arith}
use Rattle.std.proofs.lemmas.List.FromFn.{fill_by_all}
use Rattle.bp_types.specs.Program.{no_stay}
use Rattle.bp_stayfile.specs.Forecasts.{forecast_by}
use Rattle.bp_stayfile.proofs.stays.set_each.Goals as goal

pub returns : goal.returns
returns c =
    fill_by_all (λ j. forecast_by (get_or c.args.counts.now j None) (get_or c.args.stays.now j no_stay)) c.loop-stay.stays (length c.args.stays.now)
    no_stay c.loop-stay.auto.stays
    (λ k h. c.loop-stay.invariant.done k (omega arith))
