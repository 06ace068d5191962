use Rattle.bp_portfolio.specs.Sites.{AreRunsOf}
use Rattle.bp_portfolio.proofs.crew.runs_of.Given as goal

-- the hotels so far, and what came of their desks
abbrev pub invariant-loop-site : goal.invariant-loop-site
invariant-loop-site l = AreRunsOf l.yielded l.runs.items
