use Rattle.std.proofs.Common.{◌≡◌, ℕ, ◌-◌, subst, length, arith}
use Rattle.bp_types.specs.Program.{Program}
use Rattle.bp_flow.specs.Rising.{repairs, rises}
use Rattle.bp_flow.specs.Settled.{IsSolvable}
use Rattle.bp_flow.specs.Solving.{priced}
use Rattle.bp_flow.specs.Solvers.{ColdSoFar}
use Rattle.bp_flow.proofs.Cold.{cold_all}
use Rattle.bp_flow.proofs.Rising.{searches_further, searches_within}
use Rattle.bp_flow.proofs.solver.Solver.cold_from.Goals as goal

pub loop-night-preserved : goal.loop-night-preserved
loop-night-preserved g c =
    let here = c.loop-night.invariant in
    let wanted = c.args.instance.now.rooms in
    let most = rises wanted in
    let was = repairs c.loop-night.solver.flow.program.rooms wanted in
    let now = repairs c.fill.new.self.flow.program.rooms wanted in
    let counted = searches_further c.args.steps.now c.loop-night.steps c.fill.new.steps 0 c.loop-night.solver.served c.fill.new.self.served (most - was)
    (was - now) here.counted c.fill.ensures.counted in
    record {
      so_far = c.fill.ensures.so_far;
      few = omega (arith, here.few, c.fill.ensures.falls);
      counted = searches_within c.args.steps.now c.fill.new.steps 0 c.fill.new.self.served _ _ counted (omega (arith, here.few, c.fill.ensures.falls));
    }

pub returns-clause-solver : goal.returns-clause-solver
returns-clause-solver g c =
    let P : ℕ → Type 0 = λ k. ColdSoFar c.args.instance.now k (priced c.loop-night.solver) in
    let all : c.loop-night.night ≡ length c.args.instance.now.rooms =
    omega (arith, c.nights-night-end.ensures.value, c.loop-night-test.false, c.loop-night.auto.night-end) in
    cold_all c.args.instance.now c.loop-night.solver c.settle.new.self (subst P all c.loop-night.invariant.so_far)
    c.settle.ensures.flow c.settle.ensures.settled c.settle.ensures.solved

pub returns-clause-solvable : goal.returns-clause-solvable
returns-clause-solvable g c =
    let P : ℕ → Type 0 = λ k. ColdSoFar c.args.instance.now k (priced c.loop-night.solver) in
    let all : c.loop-night.night ≡ length c.args.instance.now.rooms =
    omega (arith, c.nights-night-end.ensures.value, c.loop-night-test.false, c.loop-night.auto.night-end) in
    let Q : Program → Type 0 = λ p. IsSolvable p in
    subst Q (cold_all c.args.instance.now c.loop-night.solver c.settle.new.self (subst P all c.loop-night.invariant.so_far)
    c.settle.ensures.flow c.settle.ensures.settled c.settle.ensures.solved).solves c.settle.ensures.solvable

pub returns-clause-counted : goal.returns-clause-counted
returns-clause-counted g c =
    let all = searches_further c.args.steps.now c.loop-night.steps c.settle.new.steps 0 c.loop-night.solver.served c.settle.new.self.served _ _
    c.loop-night.invariant.counted c.settle.ensures.counted in
    (all.0.0, all.1)

pub returns-clause-few : goal.returns-clause-few
returns-clause-few g c = (
  omega (arith, c.loop-night.invariant.counted.0.0, c.settle.ensures.counted.0.0),
  omega (arith, c.loop-night.invariant.counted.0.1, c.settle.ensures.counted.0.1),
)
