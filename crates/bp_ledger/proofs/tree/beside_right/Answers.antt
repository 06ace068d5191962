use Rattle.std.proofs.Common.{◌≡◌, ◌≢◌, ℕ, ◌*◌, ◌/◌, ◌%◌, arith, rules, inl, inr}
use Rattle.bp_ledger.proofs.TakeLemmas.{share_right_is}
use Rattle.bp_ledger.proofs.tree.beside_right.Goals as goal

pub returns-then-is_multiple_of : goal.returns-then-is_multiple_of
returns-then-is_multiple_of c =
    let even : c.args.node % 2 ≡ 0 = search rules in
    elim (share_right_is c.args.node c.args.units) [ inl one ↦ let e = one.1 in omega arith | inr two ↦ let f = two.0 in absurd (omega arith) ]

pub returns-else-is_multiple_of : goal.returns-else-is_multiple_of
returns-else-is_multiple_of c =
    let odd : c.args.node % 2 ≢ 0 = search rules in
    elim (share_right_is c.args.node c.args.units) [ inl one ↦ let f = one.0 in absurd (omega arith) | inr two ↦ let e = two.1 in omega arith ]
