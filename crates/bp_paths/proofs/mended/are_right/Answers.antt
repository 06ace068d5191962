use Rattle.std.proofs.Common.{◌≡◌, ℕ, subst, sym, refl, arith, rules, inl, inr, slice_index}
use Rattle.std.proofs.lemmas.Bool.{cases_eq}
use Rattle.bp_paths.specs.Mended.{IsRightAt}
use Rattle.bp_paths.proofs.Mending.{right_distances}
use Rattle.bp_paths.proofs.mended.are_right.Goals as goal

pub loop-node-preserved : goal.loop-node-preserved
loop-node-preserved c v h =
    let P : ℕ → Type 0 = λ k. IsRightAt c.args.flow.now c.args.to c.args.kept.now c.args.ranks.now k in
    elim (cases_eq v c.loop-node.node) [
      | inl e ↦ subst P (sym e) (c.if-not-is_right_at.ensures refl)
      | inr ne ↦ c.loop-node.invariant v (omega (arith, h, ne))
    ]

pub returns : goal.returns
returns c is =
    let end : slice_index c.args.kept.now c.args.to ≡ 0 = search rules in
    right_distances c.args.flow.now c.args.to c.args.kept.now c.args.ranks.now c.nights-nights.ensures.priced.limits c.requires.each end
    (λ v h. c.loop-node.invariant v (omega (arith, h, c.nights-nights.ensures.value, c.loop-node-test.false)))
