use Rattle.std.proofs.Common.{◌≡◌, ℕ, ◌+◌, ◌*◌, ◌<◌, ◌≤◌, arith, refl}
use Rattle.bp_ledger.specs.Tree.{width}
use Rattle.bp_ledger.proofs.LevelLemmas.{width_some, width_mono}
use Rattle.bp_ledger.proofs.tree.shape.Goals as goal

pub overflow_sub-leaves : goal.overflow_sub-leaves
overflow_sub-leaves c = let some = width_some c.loop-levels.levels in omega arith

pub returns-then-nights-leaves : goal.returns-then-nights-leaves
returns-then-nights-leaves c =
    let most = width_mono c.loop-levels.levels 62 (omega arith) in
    let all : width 62 ≡ 4611686018427387904 = refl in
    (c.loop-levels.invariant, omega arith, omega arith)

pub overflow_mul-leaves : goal.overflow_mul-leaves
overflow_mul-leaves c =
    let most = width_mono c.loop-levels.levels 62 (omega arith) in
    let all : width 62 ≡ 4611686018427387904 = refl in
    omega arith
