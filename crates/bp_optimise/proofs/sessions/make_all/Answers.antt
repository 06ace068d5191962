use Rattle.std.proofs.Common.{rules, arith}
use Rattle.bp_optimise.specs.Acts.{commands_in}
use Rattle.bp_optimise.proofs.Doing.{acts_again}
use Rattle.bp_optimise.proofs.Stopping.{made_on}
use Rattle.bp_optimise.proofs.sessions.make_all.Goals as goal

pub loop-done-preserved : goal.loop-done-preserved
loop-done-preserved g c =
    let inv = c.loop-done.invariant in
    let lt = c.loop-done-test.true in (
      omega (arith, lt),
      c.make_one.ensures.goes_on.goes,
      acts_again c.args.lead c.args.pass.now c.loop-done.pass c.make_one.new.pass inv.2 c.make_one.ensures.goes_on.acted,
      made_on c.args.commands.now (commands_in c.args.pass.now.calls) c.loop-done.done _ c.loop-done.pass c.make_one.new.pass c.make_one.result lt
          (search rules) inv.3 c.make_one.ensures.outcome (search rules),
    )

pub returns-in-HistoryFull-clause-acted : goal.returns-in-HistoryFull-clause-acted
returns-in-HistoryFull-clause-acted g c =
    acts_again c.args.lead c.args.pass.now c.loop-done.pass c.make_one.new.pass c.loop-done.invariant.2 c.make_one.ensures.goes_on.acted

pub returns-in-PublicationsFull-clause-acted : goal.returns-in-PublicationsFull-clause-acted
returns-in-PublicationsFull-clause-acted g c =
    acts_again c.args.lead c.args.pass.now c.loop-done.pass c.make_one.new.pass c.loop-done.invariant.2 c.make_one.ensures.goes_on.acted

pub returns-in-Memory-clause-acted : goal.returns-in-Memory-clause-acted
returns-in-Memory-clause-acted g c =
    acts_again c.args.lead c.args.pass.now c.loop-done.pass c.make_one.new.pass c.loop-done.invariant.2 c.make_one.ensures.goes_on.acted
