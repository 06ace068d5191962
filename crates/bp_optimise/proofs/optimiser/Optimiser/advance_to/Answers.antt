use Rattle.std.proofs.Common.{arith}
use Rattle.bp_optimise.proofs.Leading.{looked_not, looked_again}
use Rattle.bp_optimise.proofs.Searches.{lead_still, lead_further, counts_still, counts_further}
use Rattle.bp_optimise.proofs.optimiser.Optimiser.advance_to.Goals as goal

pub loop-self-init : goal.loop-self-init
loop-self-init g c =
    let old = c.args.pass.now in
    let o = c.args.self.now in (
      c.requires.goes,
      c.requires.before,
      omega arith,
      looked_not old,
      lead_still old.house old.seen o.position,
      counts_still old.house old.seen c.args.steps.now o,
    )

pub loop-self-preserved : goal.loop-self-preserved
loop-self-preserved g c =
    let old = c.args.pass.now in
    let mid = c.loop-self.pass in
    let new = c.step.new.pass in
    let inv = c.loop-self.invariant in
    let moves = c.step.ensures.moves in
    let before = moves.0 in
    let until = moves.1 in
    let start = inv.2 in
    let within = c.requires.within in (
      c.step.ensures.goes,
      until,
      omega (arith, before, start),
      looked_again old mid new inv.3 c.step.ensures.pass,
      lead_further old mid c.args.self.now.position c.loop-self.self.position c.step.new.self.position inv.3 start (omega (arith, before))
          (omega (arith, until, within)) inv.4 c.step.ensures.leads,
      counts_further old mid c.args.steps.now c.loop-self.steps c.step.new.steps c.args.self.now c.loop-self.self c.step.new.self inv.4 inv.3 start
          (omega (arith, before)) (omega (arith, until, within)) inv.5 c.step.ensures.counted,
    )
