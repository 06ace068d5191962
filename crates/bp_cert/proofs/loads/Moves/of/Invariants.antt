use Rattle.std.proofs.Common.{◌≡◌, length}
use Rattle.bp_types.specs.declared.limits.TheConstants.{MOST_NODES}
use Rattle.bp_cert.specs.Loads.{Counts, arriving_below, departing_below}
use Rattle.bp_cert.proofs.loads.Moves.of.Given as goal

-- the stays before this one are counted
abbrev pub invariant-loop-stay : goal.invariant-loop-stay
invariant-loop-stay l = record {
  places : (length l.arrivals ≡ MOST_NODES) × (length l.departures ≡ MOST_NODES);
  arrivals : Counts (arriving_below l.instance l.sell l.stay) l.arrivals;
  departures : Counts (departing_below l.instance l.sell l.stay) l.departures;
}
