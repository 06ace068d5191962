use Rattle.std.proofs.Common.{◌≡◌, ◌≢◌, ℕ, ◌+◌, ◌-◌, ◌*◌, ◌/◌, ◌<◌, ◌≤◌, arith, length}
use Rattle.bp_ledger.proofs.LevelLemmas.{width_mono}
use Rattle.bp_ledger.proofs.WalkLemmas.{across_within}
use Rattle.bp_ledger.proofs.LookLemmas.{look_start, look_step, look_met, climb_step, climb_done}
use Rattle.bp_ledger.proofs.tree.least_between.Goals as goal

pub loop-left-init : goal.loop-left-init
loop-left-init c = look_start c.args.levels c.args.low c.args.high c.args.leasts.now c.args.amounts.now _ _ c.requires.ordered c.requires.low c.requires.high

pub least_beside_left-with_left-requires-clause-leasts : goal.least_beside_left-with_left-requires-clause-leasts
least_beside_left-with_left-requires-clause-leasts c =
    let w = across_within c.args.levels c.args.low c.args.high c.loop-left.left c.loop-left.right c.loop-left.invariant.across in
    let lr = w.0 in
    let high = w.1 in
    omega arith

pub least_beside_left-with_left-requires-clause-amounts : goal.least_beside_left-with_left-requires-clause-amounts
least_beside_left-with_left-requires-clause-amounts c =
    let w = across_within c.args.levels c.args.low c.args.high c.loop-left.left c.loop-left.right c.loop-left.invariant.across in
    let lr = w.0 in
    let high = w.1 in
    omega arith

pub least_beside_right-with_right-requires-clause-leasts : goal.least_beside_right-with_right-requires-clause-leasts
least_beside_right-with_right-requires-clause-leasts c =
    let w = across_within c.args.levels c.args.low c.args.high c.loop-left.left c.loop-left.right c.loop-left.invariant.across in
    let lr = w.0 in
    let high = w.1 in
    omega arith

pub least_beside_right-with_right-requires-clause-amounts : goal.least_beside_right-with_right-requires-clause-amounts
least_beside_right-with_right-requires-clause-amounts c =
    let w = across_within c.args.levels c.args.low c.args.high c.loop-left.left c.loop-left.right c.loop-left.invariant.across in
    let lr = w.0 in
    let high = w.1 in
    omega arith

pub least_beside_right-with_right-requires-clause-some : goal.least_beside_right-with_right-requires-clause-some
least_beside_right-with_right-requires-clause-some c =
    let w = across_within c.args.levels c.args.low c.args.high c.loop-left.left c.loop-left.right c.loop-left.invariant.across in
    let lr = w.0 in
    let high = w.1 in
    omega arith

pub bounds-amounts-left : goal.bounds-amounts-left
bounds-amounts-left c =
    let w = across_within c.args.levels c.args.low c.args.high c.loop-left.left c.loop-left.right c.loop-left.invariant.across in
    let lr = w.0 in
    let high = w.1 in
    omega arith

pub offset_bounds-amounts-left : goal.offset_bounds-amounts-left
offset_bounds-amounts-left c =
    let w = across_within c.args.levels c.args.low c.args.high c.loop-left.left c.loop-left.right c.loop-left.invariant.across in
    let lr = w.0 in
    let high = w.1 in
    omega arith

pub bounds-amounts-right : goal.bounds-amounts-right
bounds-amounts-right c =
    let w = across_within c.args.levels c.args.low c.args.high c.loop-left.left c.loop-left.right c.loop-left.invariant.across in
    let lr = w.0 in
    let high = w.1 in
    omega arith

pub offset_bounds-amounts-right : goal.offset_bounds-amounts-right
offset_bounds-amounts-right c =
    let w = across_within c.args.levels c.args.low c.args.high c.loop-left.left c.loop-left.right c.loop-left.invariant.across in
    let lr = w.0 in
    let high = w.1 in
    omega arith

pub bounds-amounts-left-in-loop-left-2 : goal.bounds-amounts-left-in-loop-left-2
bounds-amounts-left-in-loop-left-2 c =
    let on = c.loop-left-2.invariant.on_left in
    let sum = c.loop-left-2.invariant.sum in
    let wide = width_mono c.loop-left-2.invariant.level c.args.levels (omega arith) in
    omega arith

pub offset_bounds-amounts-left-in-loop-left-2 : goal.offset_bounds-amounts-left-in-loop-left-2
offset_bounds-amounts-left-in-loop-left-2 c =
    let on = c.loop-left-2.invariant.on_left in
    let sum = c.loop-left-2.invariant.sum in
    let wide = width_mono c.loop-left-2.invariant.level c.args.levels (omega arith) in
    omega arith

pub loop-left-preserved : goal.loop-left-preserved
loop-left-preserved c = look_step c.args.levels c.args.low c.args.high c.args.leasts.now c.args.amounts.now c.loop-left.left c.loop-left.right
    c.loop-left.left_least c.loop-left.right_least
    c.least_beside_left-with_left.result c.least_beside_right-with_right.result _ _ c.requires.low c.requires.high c.requires.inner c.loop-left.invariant
    c.loop-left-test.true
    c.least_beside_left-with_left.ensures.own c.least_beside_left-with_left.ensures.even c.least_beside_right-with_right.ensures.own
    c.least_beside_right-with_right.ensures.odd (omega arith) (omega arith)

pub loop-left-2-init : goal.loop-left-2-init
loop-left-2-init c = look_met c.args.levels c.args.low c.args.high c.args.leasts.now c.args.amounts.now c.loop-left.left c.loop-left.right
    c.loop-left.left_least c.loop-left.right_least _
    c.loop-left.invariant c.loop-left-test.false (omega arith)

pub loop-left-2-preserved : goal.loop-left-2-preserved
loop-left-2-preserved c =
    climb_step c.args.levels c.args.low c.args.high c.args.leasts.now c.args.amounts.now c.loop-left-2.left c.loop-left-2.least _ c.loop-left-2.invariant
    c.loop-left-2-test.true (omega arith)

pub returns : goal.returns
returns c = climb_done c.args.levels c.args.low c.args.high c.args.leasts.now c.args.amounts.now c.loop-left-2.left c.loop-left-2.least
    c.loop-left-2.invariant (omega arith)
