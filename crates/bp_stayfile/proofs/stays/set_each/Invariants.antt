use Rattle.std.proofs.Common.{◌≡◌, ℕ, ◌<◌, ◌≤◌, get_or, None}
use Rattle.bp_types.specs.Program.{no_stay}
use Rattle.bp_stayfile.specs.Forecasts.{forecast_by}
use Rattle.bp_stayfile.proofs.stays.set_each.Given as goal

-- the stays before this one are done, and the others as they were
abbrev pub invariant-loop-stay : goal.invariant-loop-stay
invariant-loop-stay l = record {
  done : (k : ℕ) → k < l.stay → get_or l.stays k no_stay ≡ forecast_by (get_or l.counts k None) (get_or l.fn.stays k no_stay);
  left : (k : ℕ) → l.stay ≤ k → get_or l.stays k no_stay ≡ get_or l.fn.stays k no_stay;
}
