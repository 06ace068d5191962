use Rattle.std.proofs.Common.{ℕ, subst, sym, refl, arith, inl, inr}
use Rattle.std.proofs.lemmas.Bool.{cases_eq}
use Rattle.bp_flow.specs.Shift.{StandsAt}
use Rattle.bp_flow.proofs.WaySteps.{stand_settled}
use Rattle.bp_flow.proofs.ways.ways_stand.Goals as goal

pub loop-node-preserved : goal.loop-node-preserved
loop-node-preserved c v h =
    let P : ℕ → Type 0 = λ k. StandsAt c.args.flow.now c.ranks-ranks.result.now k in
    elim (cases_eq v c.loop-node.node) [
      | inl e ↦ subst P (sym e) (c.if-not-stands_at.ensures refl)
      | inr ne ↦ c.loop-node.invariant v (omega (arith, h, ne))
    ]

pub returns : goal.returns
returns c is = stand_settled c.args.flow.now c.ranks-ranks.result.now c.nights-node-end.ensures.priced c.requires.balanced c.requires.slack
    (λ v h. c.loop-node.invariant v (omega (arith, h, c.nights-node-end.ensures.value, c.loop-node-test.false)))
