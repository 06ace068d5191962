use Rattle.std.proofs.Common.{◌≡◌, false}
use Rattle.bp_optimise.specs.Following.{GoesWith}
use Rattle.bp_optimise.specs.Acts.{HasActed}
use Rattle.bp_optimise.specs.Tries.{MakesNone}
use Rattle.bp_optimise.specs.Works.{AddsSettled}
use Rattle.bp_optimise.proofs.worker.make_rounds.Given as goal

abbrev pub invariant-loop : goal.invariant-loop
invariant-loop g l =
    (goal.iterator-loop g).can_next l.iterator' × (goal.iterator-loop g).is_finite l.iterator'
    × GoesWith l.pass.house l.pass.seen l.optimiser
    × HasActed l.lead l.initial.pass l.pass
    × MakesNone l.initial.pass l.pass
    × (l.superseded ≡ false → AddsSettled l.sessions l.lead l.initial.pass l.pass)
