use Rattle.std.proofs.Common.{◌≡◌, length}
use Rattle.bp_portfolio.specs.Sites.{AreToRun}
use Rattle.bp_portfolio.proofs.crew.sites_of.Given as goal

-- a desk for each hotel so far
abbrev pub invariant-loop-staged : goal.invariant-loop-staged
invariant-loop-staged l = record {
  sites : AreToRun l.workers l.yielded l.sites.items;
  counted : l.hotel ≡ length l.yielded;
}
