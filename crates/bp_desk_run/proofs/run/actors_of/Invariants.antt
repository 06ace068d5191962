use Rattle.std.proofs.Common.{◌≡◌, ℕ, ◌+◌, ◌-◌, ◌<◌, ◌≤◌, length, slice_index_or}
use Rattle.bp_turn.specs.Prefix.{IsPrefix}
use Rattle.bp_desk_run.specs.declared.actor.Actor.{Actor}
use Rattle.bp_desk_run.proofs.Scripting.{AreFirst}
use Rattle.bp_desk_run.proofs.run.actors_of.Given as goal

abbrev pub invariant-loop-i : goal.invariant-loop-i
invariant-loop-i l = (length l.actors.items ≡ l.i) × AreFirst l.scripts.items l.workers l.actors.items

abbrev pub invariant-loop-j : goal.invariant-loop-j
invariant-loop-j l = (length l.actors.items ≡ l.workers + l.j) × (length l.scripts.items + l.j ≡ length l.initial.scripts.items) ×
    IsPrefix l.scripts.items l.initial.scripts.items × AreFirst l.initial.scripts.items l.workers l.actors.items
