use Rattle.std.proofs.Common.{◌≡◌, ℕ, ◌+◌, ◌-◌, ◌<◌, ◌≤◌, [], ◌∷◌, length, slice_index_or}
use Rattle.bp_types.specs.House.{Inn}
use Rattle.bp_core.specs.declared.call.Call.TheVariants.{Enrol}
use Rattle.bp_core.specs.declared.line.Reply.TheVariants.{Done}
use Rattle.bp_core.specs.Lines.{calls}
use Rattle.bp_core.specs.Acting.{line_of}
use Rattle.bp_desk_run.specs.Actors.{IsReady, AreReady, KeepCommands}
use Rattle.bp_desk_run.specs.declared.actor.Actor.{Actor}
use Rattle.bp_desk_run.proofs.crew.meet_all.Given as goal

abbrev pub invariant-loop-i : goal.invariant-loop-i
invariant-loop-i l =
    (l.opener ≡ l.initial.opener)
    × ((house : Inn) (sessions : ℕ) → AreReady l.desk house sessions l.initial.opener.seen l.initial.actors
    → ((c : ℕ) (a : Actor) → 1 ≤ c → c ≤ length l.initial.actors →
    IsReady l.desk house sessions c l.initial.opener.seen (slice_index_or l.actors (length l.initial.actors - c) a))
    × ((c : ℕ) → 1 ≤ c → c ≤ l.i → calls l.initial.opener.seen c ≡ line_of c Enrol Done ∷ []))
    × KeepCommands l.initial.actors l.actors
