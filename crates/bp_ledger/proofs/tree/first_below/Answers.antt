use Rattle.std.proofs.Common.{◌≡◌, ◌≢◌, ℕ, ◌+◌, ◌-◌, ◌*◌, ◌/◌, ◌<◌, ◌≤◌, arith, length, ap, subst, sym}
use Rattle.bp_ledger.specs.Tree.{kept_at}
use Rattle.bp_ledger.proofs.LevelLemmas.{width_mono, width_half}
use Rattle.bp_ledger.proofs.FindLemmas.{IsDescending, descend_start, descend_left, descend_right, descend_done}
use Rattle.bp_ledger.proofs.tree.first_below.Goals as goal
use Rattle.bp_ledger.proofs.tree.first_below.Goals.{then-saturating_sub-units, else-saturating_sub-units}

pub loop-level-init : goal.loop-level-init
loop-level-init c = descend_start c.args.levels c.args.top c.args.node c.args.higher c.args.units c.args.leasts.now c.args.amounts.now c.requires.node
    c.requires.higher (omega arith) c.requires.short

pub bounds-amounts-at : goal.bounds-amounts-at
bounds-amounts-at c =
    let on = c.loop-level.invariant.on in
    let half = width_half c.loop-level._level (c.loop-level._level + 1) (omega arith) in
    let wide = width_mono (c.loop-level._level + 1) c.args.levels (omega arith) in
    omega arith

pub offset_bounds-amounts-at : goal.offset_bounds-amounts-at
offset_bounds-amounts-at c =
    let on = c.loop-level.invariant.on in
    let half = width_half c.loop-level._level (c.loop-level._level + 1) (omega arith) in
    let wide = width_mono (c.loop-level._level + 1) c.args.levels (omega arith) in
    omega arith

pub overflow_mul-at : goal.overflow_mul-at
overflow_mul-at c =
    let on = c.loop-level.invariant.on in
    let half = width_half c.loop-level._level (c.loop-level._level + 1) (omega arith) in
    let wide = width_mono (c.loop-level._level + 1) c.args.levels (omega arith) in
    omega arith

pub kept-requires-clause-leasts : goal.kept-requires-clause-leasts
kept-requires-clause-leasts c =
    let on = c.loop-level.invariant.on in
    let half = width_half c.loop-level._level (c.loop-level._level + 1) (omega arith) in
    let wide = width_mono (c.loop-level._level + 1) c.args.levels (omega arith) in
    omega arith

pub kept-requires-clause-amounts : goal.kept-requires-clause-amounts
kept-requires-clause-amounts c =
    let on = c.loop-level.invariant.on in
    let half = width_half c.loop-level._level (c.loop-level._level + 1) (omega arith) in
    let wide = width_mono (c.loop-level._level + 1) c.args.levels (omega arith) in
    omega arith

pub loop-level-preserved : goal.loop-level-preserved
loop-level-preserved c =
    let small : kept_at c.args.leasts.now c.args.amounts.now (c.loop-level.at * 2) < 18446744073709551616 =
    (let fits = c.type_inv.leasts (c.loop-level.at * 2) in omega arith) in
    let P : ℕ → Type 0 = λ k. IsDescending c.args.levels c.args.top c.args.node (c.loop-level._level + 1)
    k c.saturating_add-sum.result c.args.units c.args.leasts.now c.args.amounts.now in
    elim c.if-saturating_sub-units.branch [
      | then-saturating_sub-units w ↦
          subst P (sym w.at-is) (descend_right c.args.levels c.args.top c.args.node c.loop-level._level c.loop-level.at c.loop-level.sum c.args.units
          c.saturating_add-sum.result
          c.args.leasts.now c.args.amounts.now c.loop-level.invariant (omega arith) c.requires.inner (omega arith) small (omega arith))
      | else-saturating_sub-units w ↦
          subst P (sym w.at-is) (descend_left c.args.levels c.args.top c.args.node c.loop-level._level c.loop-level.at c.loop-level.sum c.args.units
          c.saturating_add-sum.result
          c.args.leasts.now c.args.amounts.now c.loop-level.invariant (omega arith) (omega arith) small (omega arith))
    ]

pub returns-clause-below : goal.returns-clause-below
returns-clause-below c =
    let end = c.loop-level.auto._level-end c.requires.top in
    (descend_done c.args.levels c.args.top c.args.node c.loop-level._level c.loop-level.at c.loop-level.sum c.args.units c.args.leasts.now c.args.amounts.now
    c.loop-level.invariant (omega arith)).below

pub returns-clause-before : goal.returns-clause-before
returns-clause-before c =
    let end = c.loop-level.auto._level-end c.requires.top in
    (descend_done c.args.levels c.args.top c.args.node c.loop-level._level c.loop-level.at c.loop-level.sum c.args.units c.args.leasts.now c.args.amounts.now
    c.loop-level.invariant (omega arith)).before

pub returns-clause-short : goal.returns-clause-short
returns-clause-short c =
    let end = c.loop-level.auto._level-end c.requires.top in
    (descend_done c.args.levels c.args.top c.args.node c.loop-level._level c.loop-level.at c.loop-level.sum c.args.units c.args.leasts.now c.args.amounts.now
    c.loop-level.invariant (omega arith)).short
