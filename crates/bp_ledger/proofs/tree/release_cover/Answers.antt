use Rattle.std.proofs.Common.{◌≡◌, ◌≢◌, ℕ, ◌+◌, ◌-◌, ◌*◌, ◌/◌, ◌<◌, ◌≤◌, ◌∙◌, arith, length, slice_index, refl, sym}
use Rattle.bp_ledger.proofs.NodeLemmas.{turn_inner, turn_leaves, turn_length, inner_but, inner_met}
use Rattle.bp_ledger.proofs.WalkLemmas.{across_within}
use Rattle.bp_ledger.proofs.TakeLemmas.{releasing_start, releasing_step, take_done, ample_turn, shared_apart}
use Rattle.bp_ledger.proofs.tree.release_cover.Goals as goal

pub loop-left-init : goal.loop-left-init
loop-left-init c = record {
  taking = releasing_start c.args.levels c.args.low c.args.high c.args.units c.args.amounts.now c.requires.ordered c.requires.low c.requires.high;
  len = refl;
  leaves = λ m g. refl;
  inner = inner_but c.args.levels c.args.leasts.now c.args.amounts.now (c.args.low / 2) (c.args.high / 2) c.requires.inner;
}

pub subtract_between-requires-clause-ordered : goal.subtract_between-requires-clause-ordered
subtract_between-requires-clause-ordered c = c.loop-left.invariant.taking.taking.across.ordered

pub subtract_between-requires-clause-within : goal.subtract_between-requires-clause-within
subtract_between-requires-clause-within c =
    let w = across_within c.args.levels c.args.low c.args.high c.loop-left.left c.loop-left.right c.loop-left.invariant.taking.taking.across in
    let high = w.1 in
    let len = c.loop-left.auto.amounts in
    omega arith

pub subtract_between-requires-clause-left : goal.subtract_between-requires-clause-left
subtract_between-requires-clause-left c =
    (ample_turn c.args.levels c.args.low c.args.high c.loop-left.left c.loop-left.right c.args.units c.args.amounts.now c.loop-left.amounts
    c.loop-left.invariant.taking c.requires.ample c.loop-left-test.true).0

pub subtract_between-requires-clause-right : goal.subtract_between-requires-clause-right
subtract_between-requires-clause-right c =
    (ample_turn c.args.levels c.args.low c.args.high c.loop-left.left c.loop-left.right c.args.units c.args.amounts.now c.loop-left.amounts
    c.loop-left.invariant.taking c.requires.ample c.loop-left-test.true).1

pub refresh-requires-clause-leasts : goal.refresh-requires-clause-leasts
refresh-requires-clause-leasts c =
    let w = across_within c.args.levels c.args.low c.args.high c.loop-left.left c.loop-left.right c.loop-left.invariant.taking.taking.across in
    let lr = w.0 in
    let high = w.1 in
    let len = c.loop-left.invariant.len in
    omega arith

pub refresh-requires-clause-amounts : goal.refresh-requires-clause-amounts
refresh-requires-clause-amounts c =
    let w = across_within c.args.levels c.args.low c.args.high c.loop-left.left c.loop-left.right c.loop-left.invariant.taking.taking.across in
    let lr = w.0 in
    let high = w.1 in
    let len = c.loop-left.auto.amounts in
    let same : length c.subtract_between.new.amounts ≡ length c.loop-left.amounts = c.subtract_between.auto.amounts in
    omega arith

pub refresh-requires-in-loop-left-clause-leasts : goal.refresh-requires-in-loop-left-clause-leasts
refresh-requires-in-loop-left-clause-leasts c =
    let w = across_within c.args.levels c.args.low c.args.high c.loop-left.left c.loop-left.right c.loop-left.invariant.taking.taking.across in
    let high = w.1 in
    let len = c.loop-left.invariant.len in
    let same : length c.refresh.new.leasts ≡ length c.loop-left.leasts = c.refresh.auto.leasts in
    omega arith

pub refresh-requires-in-loop-left-clause-amounts : goal.refresh-requires-in-loop-left-clause-amounts
refresh-requires-in-loop-left-clause-amounts c =
    let w = across_within c.args.levels c.args.low c.args.high c.loop-left.left c.loop-left.right c.loop-left.invariant.taking.taking.across in
    let high = w.1 in
    let len = c.loop-left.auto.amounts in
    let same : length c.subtract_between.new.amounts ≡ length c.loop-left.amounts = c.subtract_between.auto.amounts in
    omega arith

pub loop-left-preserved : goal.loop-left-preserved
loop-left-preserved c =
    let across = c.loop-left.invariant.taking.taking.across in
    let w = across_within c.args.levels c.args.low c.args.high c.loop-left.left c.loop-left.right across in
    let len = c.loop-left.invariant.len in
    let low : ℕ = c.loop-left.left in
    let high : ℕ = c.loop-left.right in
    rw (c.refresh-in-loop-left.ensures, c.refresh.ensures) (record {
      taking = releasing_step c.args.levels c.args.low c.args.high low high c.args.units c.args.amounts.now c.loop-left.amounts c.subtract_between.new.amounts
          c.loop-left.invariant.taking c.requires.low c.requires.high c.loop-left-test.true c.subtract_between.ensures;
      len = turn_length c.loop-left.leasts c.subtract_between.new.amounts low high ∙ len;
      leaves = turn_leaves c.args.levels c.args.leasts.now c.loop-left.leasts c.subtract_between.new.amounts low high w.0 w.1 c.loop-left.invariant.leaves;
      inner = turn_inner c.args.levels c.loop-left.leasts c.loop-left.amounts c.subtract_between.new.amounts low high (omega arith) w.0 w.1
          (λ k p q. sym (shared_apart low high c.args.units c.subtract_between.new.amounts c.loop-left.amounts c.subtract_between.ensures w.0 k p q))
          c.loop-left.invariant.inner;
    })

pub bring_up-requires-clause-from : goal.bring_up-requires-clause-from
bring_up-requires-clause-from c =
    let w = across_within c.args.levels c.args.low c.args.high c.loop-left.left c.loop-left.right c.loop-left.invariant.taking.taking.across in
    let lr = w.0 in
    let high = w.1 in
    let len = c.loop-left.invariant.len in
    omega arith

pub bring_up-requires-clause-inner : goal.bring_up-requires-clause-inner
bring_up-requires-clause-inner c =
    λ x low high. inner_met c.args.levels c.loop-left.leasts c.loop-left.amounts c.loop-left.left c.loop-left.right x c.loop-left-test.false low high
    c.loop-left.invariant.inner

pub returns-clause-taken : goal.returns-clause-taken
returns-clause-taken c =
    take_done c.args.levels c.args.low c.args.high c.loop-left.left c.loop-left.right c.args.units c.loop-left.amounts c.args.amounts.now
    c.loop-left.invariant.taking.taking c.loop-left-test.false
