use Rattle.std.proofs.Common.{◌-◌, ◌≤◌}
use Rattle.bp_optimise.specs.Following.{GoesWith, HasLooked}
use Rattle.bp_optimise.specs.Searching.{LeadOn, CountsCatchingUp}
use Rattle.bp_optimise.proofs.optimiser.Optimiser.advance_to.Given as goal

abbrev pub invariant-loop-self : goal.invariant-loop-self
invariant-loop-self g l =
    GoesWith l.pass.house l.pass.seen l.self × (l.self.position ≤ l.until) × (l.initial.self.position ≤ l.self.position) × HasLooked l.initial.pass l.pass
    × LeadOn l.initial.pass.house l.initial.pass.seen l.initial.self.position l.self.position
    × CountsCatchingUp l.initial.pass.house l.initial.pass.seen l.initial.steps l.steps l.initial.self l.self

abbrev pub decreases-loop-self : goal.decreases-loop-self
decreases-loop-self g l = l.until - l.self.position
