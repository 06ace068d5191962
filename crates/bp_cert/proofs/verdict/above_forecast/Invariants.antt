use Rattle.std.proofs.Common.{slice_index}
use Rattle.bp_types.specs.Program.{stay_at}
use Rattle.bp_cert.specs.Verdicts.{NoneAbove}
use Rattle.bp_cert.proofs.verdict.above_forecast.Given as goal

abbrev pub invariant-loop-stay : goal.invariant-loop-stay
invariant-loop-stay l = NoneAbove (λ j. (stay_at l.instance j).forecast) (slice_index l.sell) l.stay
