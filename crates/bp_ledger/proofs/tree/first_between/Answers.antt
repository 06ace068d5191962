use Rattle.std.proofs.Common.{◌≡◌, ◌≢◌, ℕ, ◌+◌, ◌-◌, ◌*◌, ◌/◌, ◌%◌, ◌<◌, ◌≤◌, arith, length}
use Rattle.bp_ledger.proofs.LevelLemmas.{width_mono, way_over}
use Rattle.bp_ledger.proofs.FindLemmas.{IsFirstBelow, ascend_start, ascend_step, ascend_done, ascend_found, over_parent, over_beside}
use Rattle.bp_ledger.proofs.tree.first_between.Goals as goal

pub overflow_sub-higher : goal.overflow_sub-higher
overflow_sub-higher c = let all = way_over c.args.levels c.args.amounts.now c.args.low in omega arith

pub loop-left-init : goal.loop-left-init
loop-left-init c = ascend_start c.args.levels c.args.low c.args.high _ c.args.units c.args.leasts.now c.args.amounts.now c.requires.ordered c.requires.low
    c.requires.high (omega arith)

pub is_short_beside-requires-clause-leasts : goal.is_short_beside-requires-clause-leasts
is_short_beside-requires-clause-leasts c =
    let on = c.loop-left.invariant.on_right in
    let sum = c.loop-left.invariant.sum in
    let wide = width_mono c.loop-left.level c.args.levels (omega arith) in
    omega arith

pub is_short_beside-requires-clause-amounts : goal.is_short_beside-requires-clause-amounts
is_short_beside-requires-clause-amounts c =
    let on = c.loop-left.invariant.on_right in
    let sum = c.loop-left.invariant.sum in
    let wide = width_mono c.loop-left.level c.args.levels (omega arith) in
    omega arith

pub bounds-amounts-left : goal.bounds-amounts-left
bounds-amounts-left c =
    let on = c.loop-left.invariant.on_right in
    let sum = c.loop-left.invariant.sum in
    let wide = width_mono c.loop-left.level c.args.levels (omega arith) in
    omega arith

pub offset_bounds-amounts-left : goal.offset_bounds-amounts-left
offset_bounds-amounts-left c =
    let on = c.loop-left.invariant.on_right in
    let sum = c.loop-left.invariant.sum in
    let wide = width_mono c.loop-left.level c.args.levels (omega arith) in
    omega arith

pub first_below-requires-clause-top : goal.first_below-requires-clause-top
first_below-requires-clause-top c = let sum = c.loop-left.invariant.sum in omega arith

pub first_below-requires-clause-node : goal.first_below-requires-clause-node
first_below-requires-clause-node c =
    let short = c.is_short_beside.ensures.short c.if-is_short_beside.true in
    (over_beside c.args.levels c.args.low c.args.high c.loop-left.level c.loop-left.left c.loop-left.right c.loop-left.higher c.args.units c.args.leasts.now
    c.args.amounts.now c.loop-left.invariant c.loop-left-test.true short.0).0

pub first_below-requires-clause-higher : goal.first_below-requires-clause-higher
first_below-requires-clause-higher c =
    let short = c.is_short_beside.ensures.short c.if-is_short_beside.true in
    (over_beside c.args.levels c.args.low c.args.high c.loop-left.level c.loop-left.left c.loop-left.right c.loop-left.higher c.args.units c.args.leasts.now
    c.args.amounts.now c.loop-left.invariant c.loop-left-test.true short.0).1

pub first_below-requires-clause-short : goal.first_below-requires-clause-short
first_below-requires-clause-short c = (c.is_short_beside.ensures.short c.if-is_short_beside.true).1

pub returns-then-is_short_beside-clause-after : goal.returns-then-is_short_beside-clause-after
returns-then-is_short_beside-clause-after c =
    (ascend_found c.args.levels c.args.low c.args.high c.loop-left.level c.loop-left.left c.loop-left.right c.loop-left.higher c.args.units
    c.first_below.result c.args.leasts.now c.args.amounts.now c.loop-left.invariant c.requires.low c.requires.high
    (record { below = c.first_below.ensures.below; before = c.first_below.ensures.before; short = c.first_below.ensures.short })).0

pub returns-then-is_short_beside-clause-before : goal.returns-then-is_short_beside-clause-before
returns-then-is_short_beside-clause-before c =
    (ascend_found c.args.levels c.args.low c.args.high c.loop-left.level c.loop-left.left c.loop-left.right c.loop-left.higher c.args.units
    c.first_below.result c.args.leasts.now c.args.amounts.now c.loop-left.invariant c.requires.low c.requires.high
    (record { below = c.first_below.ensures.below; before = c.first_below.ensures.before; short = c.first_below.ensures.short })).1

pub overflow_sub-level : goal.overflow_sub-level
overflow_sub-level c =
    let parent = over_parent c.args.levels c.args.low c.args.high c.loop-left.level c.loop-left.left c.loop-left.right c.loop-left.higher c.args.units
    c.args.leasts.now c.args.amounts.now c.loop-left.invariant c.loop-left-test.true in
    let some = parent.0 in
    omega arith

pub overflow_sub-higher-in-loop-left : goal.overflow_sub-higher-in-loop-left
overflow_sub-higher-in-loop-left c =
    let parent = over_parent c.args.levels c.args.low c.args.high c.loop-left.level c.loop-left.left c.loop-left.right c.loop-left.higher c.args.units
    c.args.leasts.now c.args.amounts.now c.loop-left.invariant c.loop-left-test.true in
    let sum = parent.1 in
    omega arith

pub loop-left-preserved : goal.loop-left-preserved
loop-left-preserved c =
    ascend_step c.args.levels c.args.low c.args.high c.loop-left.level c.loop-left.left c.loop-left.right c.loop-left.higher c.args.units c.args.leasts.now
    c.args.amounts.now c.loop-left.invariant c.requires.low c.requires.high c.requires.inner c.loop-left-test.true
    (c.is_short_beside.ensures.enough c.if-is_short_beside.false)

pub loop-left-smaller : goal.loop-left-smaller
loop-left-smaller c = let lt = c.loop-left-test.true in omega arith

pub returns-clause-before : goal.returns-clause-before
returns-clause-before c =
    λ m f t lt. ascend_done c.args.levels c.args.low c.args.high c.loop-left.level c.loop-left.left c.loop-left.right c.loop-left.higher c.args.units
    c.args.leasts.now c.args.amounts.now c.loop-left.invariant c.loop-left-test.false m f t
