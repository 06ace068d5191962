use Rattle.std.proofs.Common.{◌≡◌, ℕ, ◌+◌, ◌-◌, ◌*◌, ◌/◌, ◌<◌, ◌≤◌, arith, length}
use Rattle.bp_ledger.proofs.WalkLemmas.{across_within}
use Rattle.bp_ledger.proofs.TakeLemmas.{checked_start, checked_step, checked_done}
use Rattle.bp_ledger.proofs.tree.is_ample.Goals as goal

pub loop-left-init : goal.loop-left-init
loop-left-init c = checked_start c.args.low c.args.high c.args.units c.args.levels c.args.amounts.now c.requires.ordered c.requires.low c.requires.high

pub bounds-amounts-left : goal.bounds-amounts-left
bounds-amounts-left c =
    let w = across_within c.args.levels c.args.low c.args.high c.loop-left.left c.loop-left.right c.loop-left.invariant.across in
    let lr = w.0 in
    let high = w.1 in
    omega arith

pub offset_bounds-amounts-left : goal.offset_bounds-amounts-left
offset_bounds-amounts-left c =
    let w = across_within c.args.levels c.args.low c.args.high c.loop-left.left c.loop-left.right c.loop-left.invariant.across in
    let lr = w.0 in
    let high = w.1 in
    omega arith

pub bounds-amounts-right : goal.bounds-amounts-right
bounds-amounts-right c =
    let w = across_within c.args.levels c.args.low c.args.high c.loop-left.left c.loop-left.right c.loop-left.invariant.across in
    let lr = w.0 in
    let high = w.1 in
    omega arith

pub offset_bounds-amounts-right : goal.offset_bounds-amounts-right
offset_bounds-amounts-right c =
    let w = across_within c.args.levels c.args.low c.args.high c.loop-left.left c.loop-left.right c.loop-left.invariant.across in
    let lr = w.0 in
    let high = w.1 in
    omega arith

pub loop-left-preserved : goal.loop-left-preserved
loop-left-preserved c = checked_step c.args.low c.args.high c.args.units c.args.levels c.loop-left.left c.loop-left.right c.args.amounts.now
    c.loop-left.invariant c.loop-left-test.true (omega arith) (omega arith)

pub returns : goal.returns
returns c = λ e. checked_done c.args.low c.args.high c.args.units c.args.levels c.loop-left.left c.loop-left.right c.args.amounts.now c.loop-left.invariant
    c.loop-left-test.false
