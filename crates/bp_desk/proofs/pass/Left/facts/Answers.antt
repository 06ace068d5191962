use Rattle.std.proofs.Common.{subst, ◌≤◌, length, All}
use Rattle.bp_desk.specs.Passes.{PassState}
use Rattle.bp_desk.proofs.pass.Left.facts.Goals as goal

pub returns-clause-turns : goal.returns-clause-turns
returns-clause-turns c = subst (λ (q : PassState). All (λ t. t ≤ length q.seen) q.turns) c.self.view_is c.facts.ensures.turn_lengths
