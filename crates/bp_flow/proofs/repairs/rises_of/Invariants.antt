use Rattle.std.proofs.Common.{◌≡◌, ◌*◌, ◌≤◌}
use Rattle.bp_types.specs.declared.limits.TheConstants.{MOST_UNITS}
use Rattle.bp_types.specs.Sums.{sum_below}
use Rattle.bp_flow.specs.Rising.{rise_of, prior}
use Rattle.bp_flow.specs.Solvers.{lack_at}
use Rattle.bp_flow.proofs.repairs.rises_of.Given as goal

abbrev pub invariant-loop-night : goal.invariant-loop-night
invariant-loop-night l = record {
  sum : l.sum ≡ sum_below (rise_of (lack_at l.up l.flow.flow.program.rooms l.instance.rooms)) l.night;
  before : l.before ≡ prior (lack_at l.up l.flow.flow.program.rooms l.instance.rooms) l.night;
  few : l.sum ≤ l.night * MOST_UNITS;
}
