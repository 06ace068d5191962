use Rattle.std.proofs.Common.{◌≡◌, true}
use Rattle.bp_optimise.specs.Following.{GoesWith}
use Rattle.bp_optimise.specs.Acts.{HasActed}
use Rattle.bp_optimise.specs.Tries.{HasAllVectors, MakesNone}
use Rattle.bp_optimise.proofs.sessions.make_again.Given as goal

abbrev pub invariant-loop : goal.invariant-loop
invariant-loop g l =
    (goal.iterator-loop g).can_next l.iterator' × (goal.iterator-loop g).is_finite l.iterator'
    × GoesWith l.pass.house l.pass.seen l.optimiser
    × HasActed l.lead l.initial.pass l.pass
    × MakesNone l.initial.pass l.pass
    × (l.full ≡ true → HasAllVectors l.pass)
