use Rattle.std.proofs.Common.{◌≡◌, ℕ, ◌+◌, ◌-◌, ◌<◌, ◌≤◌, length, slice_index_or}
use Rattle.bp_types.specs.House.{Inn}
use Rattle.bp_desk_run.specs.Endings.{IsEnded}
use Rattle.bp_desk_run.specs.Actors.{HaveRun, HasJoined}
use Rattle.bp_desk_run.specs.declared.actor.Actor.{Actor}
use Rattle.bp_desk_run.proofs.crew.join_all.Given as goal

abbrev pub invariant-loop-i : goal.invariant-loop-i
invariant-loop-i l =
    HasJoined l.initial.opener l.opener
    × ((house : Inn) (sessions c : ℕ) (a : Actor) → HaveRun l.desk house sessions l.initial.actors → 1 ≤ c → c ≤ l.i
    → IsEnded house sessions c (slice_index_or l.initial.actors (length l.initial.actors - c) a).commands.items l.opener
    (slice_index_or l.initial.actors (length l.initial.actors - c) a).stop)
    × ((c : ℕ) (a : Actor) → l.i < c → c ≤ length l.initial.actors →
    slice_index_or l.actors (length l.initial.actors - c) a ≡ slice_index_or l.initial.actors (length l.initial.actors - c) a)
    × (length l.actors ≡ length l.initial.actors)
    × ((k : ℕ) (a : Actor) → k < length l.initial.actors → (slice_index_or l.actors k a).stop ≡ (slice_index_or l.initial.actors k a).stop)
