use Rattle.std.proofs.Common.{◌≡◌, ℕ, ◌+◌, ◌-◌, ◌*◌, ◌/◌, ◌<◌, ◌≤◌, arith, slice_index}
use Rattle.bp_ledger.proofs.TakeLemmas.{left_enough, taken_off}
use Rattle.bp_ledger.proofs.tree.subtract_between.Goals as goal

pub overflow_sub-amounts-3 : goal.overflow_sub-amounts-3
overflow_sub-amounts-3 c =
    let lr = c.requires.ordered in
    let within = c.requires.within in
    rw (c.beside_left.ensures, c.beside_right.ensures) (left_enough c.args.amounts.now c.args.left c.args.right c.args.units lr (omega arith) c.requires.left)

pub returns : goal.returns
returns c = rw (c.beside_left.ensures, c.beside_right.ensures)
    (taken_off c.args.amounts.now c.args.left c.args.right c.args.units c.requires.ordered c.requires.within c.requires.apart c.requires.left c.requires.right)
