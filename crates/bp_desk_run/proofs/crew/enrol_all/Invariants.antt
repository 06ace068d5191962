use Rattle.std.proofs.Common.{◌≡◌, ℕ, ◌+◌, ◌-◌, ◌<◌, ◌≤◌, length, slice_index_or}
use Rattle.bp_desk_run.specs.Actors.{IsReady, KeepCommands, HasEnrolledAll}
use Rattle.bp_desk_run.specs.declared.actor.Actor.{Actor}
use Rattle.bp_desk_run.proofs.crew.enrol_all.Given as goal

abbrev pub invariant-loop-i : goal.invariant-loop-i
invariant-loop-i g l =
    (l.opener.desk ≡ l.desk) × HasEnrolledAll l.i l.initial.opener l.opener
    × ((c : ℕ) (a : Actor) → 1 ≤ c → c ≤ l.i →
    IsReady l.desk l.initial.opener.house l.sessions c l.opener.seen (slice_index_or l.actors (length l.initial.actors - c) a))
    × KeepCommands l.initial.actors l.actors
