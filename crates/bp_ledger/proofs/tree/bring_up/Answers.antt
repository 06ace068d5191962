use Rattle.std.proofs.Common.{◌≡◌, ◌≢◌, ℕ, ◌+◌, ◌*◌, ◌/◌, ◌<◌, ◌≤◌, arith, length, length-set}
use Rattle.bp_ledger.proofs.NodeLemmas.{refreshed, at_other}
use Rattle.bp_ledger.proofs.LevelLemmas.{width_some}
use Rattle.bp_ledger.proofs.tree.bring_up.Goals as goal

pub loop-node-preserved : goal.loop-node-preserved
loop-node-preserved c =
    let d : ℕ = c.loop-node.node / 2 in
    let len = c.loop-node.invariant.len in
    let within = c.loop-node.invariant.within in
    rw c.refresh.ensures (record {
      within = simp length-set (omega arith);
      len = simp length-set (omega arith);
      leaves = λ m h. rw (at_other c.loop-node.leasts m d _ (omega arith)) (c.loop-node.invariant.leaves m h);
      inner = λ x a b p some small nx ny. refreshed c.loop-node.leasts c.args.amounts.now d p (omega arith) some (λ e. nx (omega arith))
          (λ e. nx (omega arith)) (λ ne. c.loop-node.invariant.inner d (omega arith) (omega arith) p some small ne ne);
    })

pub returns-clause-inner : goal.returns-clause-inner
returns-clause-inner c =
    λ p some small nx ny. c.loop-node.invariant.inner (c.loop-node.node / 2) (omega arith) (omega arith) p some small (omega arith) (omega arith)
