use Rattle.std.proofs.Common.{◌≡◌, ◌≢◌, ℕ, ◌+◌, ◌-◌, ◌*◌, ◌/◌, ◌<◌, ◌≤◌, arith, length, slice_index}
use Rattle.bp_ledger.specs.Tree.{on_way}
use Rattle.bp_ledger.proofs.NodeLemmas.{at_other}
use Rattle.bp_ledger.proofs.LevelLemmas.{way_over}
use Rattle.bp_ledger.proofs.PushLemmas.{leaf_taken, leaf_inner}
use Rattle.bp_ledger.proofs.tree.release_at.Goals as goal

pub overflow_sub-amounts : goal.overflow_sub-amounts
overflow_sub-amounts c =
    let all = way_over c.args.levels c.push_above.new.amounts c.args.leaf in
    let none = c.push_above.ensures.none in
    let same = c.push_above.ensures.ways.ways c.args.leaf c.requires.leaf in
    omega arith

pub bring_up-requires-clause-inner : goal.bring_up-requires-clause-inner
bring_up-requires-clause-inner c =
    λ x low high. leaf_inner c.args.levels c.push_above.new.leasts c.push_above.new.amounts c.args.leaf x _ low high c.push_above.ensures.inner

pub returns-clause-taken : goal.returns-clause-taken
returns-clause-taken c =
    let all = way_over c.args.levels c.push_above.new.amounts c.args.leaf in
    let none = c.push_above.ensures.none in
    let same = c.push_above.ensures.ways.ways c.args.leaf c.requires.leaf in
    let len = c.push_above.ensures.ways.len in
    let on = c.requires.leaf in
    leaf_taken c.args.levels c.args.amounts.now c.push_above.new.amounts c.args.leaf c.args.units c.requires.leaf (omega arith) c.push_above.ensures.ways
    (omega arith)
