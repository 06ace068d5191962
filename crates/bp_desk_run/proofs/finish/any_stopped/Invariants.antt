use Rattle.std.proofs.Common.{◌≡◌, ◌≢◌, ℕ, ◌-◌, ◌<◌, ◌≤◌, length, slice_index_or}
use Rattle.bp_desk_run.specs.declared.actor.Actor.{Actor}
use Rattle.bp_desk_run.proofs.finish.any_stopped.Given as goal

abbrev pub invariant-loop-i : goal.invariant-loop-i
invariant-loop-i l = (l.i ≤ length l.actors) × ((k : ℕ) (a : Actor) → k < l.i → (slice_index_or l.actors k a).stop ≢ l.stop)

abbrev pub decreases-loop-i : goal.decreases-loop-i
decreases-loop-i l = length l.actors - l.i
