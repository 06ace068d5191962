use Rattle.std.proofs.Common.{◌-◌, arith}
use Rattle.bp_flow.specs.Rising.{repairs}
use Rattle.bp_flow.proofs.Rising.{searches_further, searches_within}
use Rattle.bp_flow.proofs.solver.Solver.fill.Goals as goal

pub loop-self-preserved : goal.loop-self-preserved
loop-self-preserved g c =
    let here = c.loop-self.invariant in
    let wanted = c.args.instance.now.rooms in
    let first = repairs c.args.self.now.flow.program.rooms wanted in
    let was = repairs c.loop-self.self.flow.program.rooms wanted in
    let now = repairs c.fill_shortage.new.self.flow.program.rooms wanted in
    let counted = searches_further c.args.steps.now c.loop-self.steps c.fill_shortage.new.steps c.args.self.now.served c.loop-self.self.served
    c.fill_shortage.new.self.served (first - was) (was - now) here.counted c.fill_shortage.ensures.counted in
    record {
      so_far = c.fill_shortage.ensures.so_far;
      falls = omega (arith, here.falls, c.fill_shortage.ensures.falls);
      counted = searches_within c.args.steps.now c.fill_shortage.new.steps c.args.self.now.served c.fill_shortage.new.self.served _ _ counted
          (omega (arith, here.falls, c.fill_shortage.ensures.falls));
    }
