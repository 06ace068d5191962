use Rattle.std.proofs.Common.{arith}
use Rattle.bp_run.proofs.PortfolioLemmas.{as_many_runs}
use Rattle.bp_run.proofs.commands.portfolio.all_run.Goals as goal

pub invariant_of-result : goal.invariant_of-result
invariant_of-result g c =
    let same = as_many_runs c.args.workers c.args.hotels.items c.in_ok-list.list.items c.in_ok-list.ensures in
    omega (arith, same, c.requires.few)
