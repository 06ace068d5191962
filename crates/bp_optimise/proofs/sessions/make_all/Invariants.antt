use Rattle.std.proofs.Common.{◌≡◌, ◌-◌, ◌≤◌, ◌++◌, length, take}
use Rattle.bp_optimise.specs.Following.{GoesWith}
use Rattle.bp_optimise.specs.Acts.{HasActed, commands_in}
use Rattle.bp_optimise.proofs.sessions.make_all.Given as goal

abbrev pub invariant-loop-done : goal.invariant-loop-done
invariant-loop-done g l =
    (l.done ≤ length l.commands)
    × GoesWith l.pass.house l.pass.seen l.optimiser
    × HasActed l.lead l.initial.pass l.pass
    × (commands_in l.pass.calls ≡ commands_in l.initial.pass.calls ++ take l.done l.commands)

abbrev pub decreases-loop-done : goal.decreases-loop-done
decreases-loop-done g l = length l.commands - l.done
