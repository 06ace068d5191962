use Rattle.std.proofs.Common.{◌≡◌, ℕ, ◌+◌, ◌-◌, ◌<◌, ◌≤◌, suc, arith, subst, refl}
use Rattle.bp_ledger.specs.Tree.{width, IsOnLevel, on_way}
use Rattle.bp_ledger.proofs.LevelLemmas.{width_mono, way_step, level_step, way_has}
use Rattle.bp_ledger.proofs.tree.way.Goals as goal

pub bounds-amounts-node : goal.bounds-amounts-node
bounds-amounts-node c = omega (arith, width_mono (c.args.levels - c.loop-level._level) c.args.levels (omega arith), c.loop-level.invariant.level)

pub overflow_add-sum : goal.overflow_add-sum
overflow_add-sum c = omega (
  arith,
  c.loop-level.invariant.sum,
  c.requires.fits,
  way_has 0 (c.args.levels - c.loop-level._level) c.args.amounts.now c.loop-level.node (omega arith),
)

pub loop-level-preserved : goal.loop-level-preserved
loop-level-preserved c =
    let e : c.args.levels - c.loop-level._level ≡ suc (c.args.levels - (c.loop-level._level + 1)) = omega arith in
    record {
      level = level_step _ _ _ e c.loop-level.invariant.level;
      sum = omega (arith, c.loop-level.invariant.sum, way_step _ _ c.args.amounts.now c.loop-level.node e);
    }

pub bounds-amounts-node-2 : goal.bounds-amounts-node-2
bounds-amounts-node-2 c = omega (arith, width_mono (c.args.levels - c.loop-level._level) c.args.levels (omega arith), c.loop-level.invariant.level)

pub overflow_add-result : goal.overflow_add-result
overflow_add-result c = omega (
  arith,
  c.loop-level.invariant.sum,
  c.requires.fits,
  way_has 0 (c.args.levels - c.loop-level._level) c.args.amounts.now c.loop-level.node (omega arith),
)

pub returns : goal.returns
returns c =
    let e : c.args.levels - c.loop-level._level ≡ 0 = omega arith in
    let P : ℕ → Type 0 = λ k. c.loop-level.sum + on_way k c.args.amounts.now c.loop-level.node ≡ on_way c.args.levels c.args.amounts.now c.args.leaf in
    let s = subst P e c.loop-level.invariant.sum in
    omega arith

pub offset_bounds-amounts-node : goal.offset_bounds-amounts-node
offset_bounds-amounts-node c = let b = width_mono (c.args.levels - c.loop-level._level) c.args.levels (omega arith) in
    let is = c.loop-level.invariant.level in omega arith
