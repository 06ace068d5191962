use Rattle.std.proofs.Common.{subst, ◌≤◌, length, All}
use Rattle.bp_desk.specs.Passes.{PassState, HasAccounts}
use Rattle.bp_desk.proofs.Standing.{accounts}
use Rattle.bp_desk.proofs.pass.Pass.facts.Goals as goal

pub returns-clause-accounts : goal.returns-clause-accounts
returns-clause-accounts c = subst HasAccounts c.self.view_is (accounts c.self.inside.seat c.facts.ensures)

pub returns-clause-turns : goal.returns-clause-turns
returns-clause-turns c = subst (λ (q : PassState). All (λ t. t ≤ length q.seen) q.turns) c.self.view_is c.facts.ensures.turn_lengths
