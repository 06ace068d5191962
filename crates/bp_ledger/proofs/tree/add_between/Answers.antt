use Rattle.std.proofs.Common.{◌≡◌, ℕ, ◌+◌, ◌-◌, ◌*◌, ◌/◌, ◌<◌, ◌≤◌, arith, slice_index, inl, inr}
use Rattle.bp_ledger.proofs.TakeLemmas.{share_left_is, share_right_is, mid_right, added}
use Rattle.bp_ledger.proofs.tree.add_between.Goals as goal

pub overflow_add-amounts-2 : goal.overflow_add-amounts-2
overflow_add-amounts-2 c =
    let fits = c.requires.left in
    let share = c.beside_left.ensures in
    elim (share_left_is c.args.left c.args.units) [ inl even ↦ let e = even.0 in let f = even.1 in omega arith | inr odd ↦ let f = odd.1 in omega arith ]

pub overflow_add-amounts-3 : goal.overflow_add-amounts-3
overflow_add-amounts-3 c =
    let lr = c.requires.ordered in
    let within = c.requires.within in
    let fits = c.requires.right in
    elim (share_right_is c.args.right c.args.units) [
      | inl even ↦ let e = c.beside_right.ensures in let f = even.1 in omega arith
      | inr odd ↦ rw (c.beside_left.ensures, c.beside_right.ensures)
          (let kept = mid_right c.args.amounts.now c.args.left c.args.right c.args.units lr (omega arith) odd.0 in let f = odd.1 in let g = fits odd.0 in
          omega arith)
    ]

pub returns : goal.returns
returns c = rw (
  c.beside_left.ensures,
  c.beside_right.ensures,
) (added c.args.amounts.now c.args.left c.args.right c.args.units c.requires.ordered c.requires.within c.requires.apart)
