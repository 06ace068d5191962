use Rattle.std.proofs.Common.{arith}
use Rattle.bp_optimise.proofs.Leading.{prefix_le}
use Rattle.bp_optimise.proofs.Searches.{counts_later}
use Rattle.bp_optimise.proofs.optimiser.Optimiser.advance.Goals as goal

pub returns-clause-counted : goal.returns-clause-counted
returns-clause-counted g c =
    let first = c.lag-lag.new.pass in
    let new = c.advance_to.new.pass in
    let l = c.advance_to.ensures.pass in
    let at = c.advance_to.ensures.position in
    let long = c.lag-lag.ensures.length in
    let w = c.requires.goes.within in
    let le = prefix_le c.args.pass.now.seen first.seen c.lag-lag.ensures.read.begins in
    counts_later first.house new.house first.seen new.seen c.args.steps.now c.advance_to.new.steps c.args.self.now c.advance_to.new.self l.house l.begins
    (omega (arith, at, long, w, le)) (omega (arith, at, long)) c.advance_to.ensures.counted
