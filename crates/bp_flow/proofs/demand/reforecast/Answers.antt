use Rattle.std.proofs.Common.{◌≡◌, ℕ, ◌-◌, ◌<◌, ◌≤◌, ap, arith, sym, subst, slice_index, rules}
use Rattle.bp_types.specs.declared.stay.Stay.{Stay}
use Rattle.bp_types.specs.Program.{stay_at}
use Rattle.bp_residual.specs.Network.{Priced, sell_more, sell_less, HasImbalance}
use Rattle.bp_flow.specs.Solvers.{SetsDemand}
use Rattle.bp_flow.proofs.DemandSteps.{demand_slack, demand_falls, demand_rises, demand_stays}
use Rattle.bp_flow.proofs.demand.reforecast.Goals as goal

pub shift-requires-clause-slack : goal.shift-requires-clause-slack
shift-requires-clause-slack g c =
    let p : Priced = c.args.flow.now in
    let j = c.args.stay in
    let s = c.requires.solved in
    demand_slack p c.set_demand.new.flow j c.args.value c.args.value s.priced.flow s.slack c.requires.stay c.set_demand.ensures (λ l. absurd (omega arith))
    (λ some.
    let dear = s.slack (sell_less j) (c.requires.stay, omega (arith, c.sold-sold.ensures, c.if-value-sold.true)) in
    omega (arith, dear))

pub shift-requires-clause-imbalance : goal.shift-requires-clause-imbalance
shift-requires-clause-imbalance g c =
    let p : Priced = c.args.flow.now in
    let j = c.args.stay in
    let s = c.requires.solved in
    let q : Priced = c.set_demand.new.flow in
    let P : Stay → Type 0 = λ z. HasImbalance q.flow z.span.from z.span.to (c.sold-sold.result - c.args.value) in
    let Q : ℕ → Type 0 = λ y. HasImbalance q.flow (stay_at p.flow.program j).span.from (stay_at p.flow.program j).span.to (y - c.args.value) in
    subst P (sym c.stay-terms.ensures.value)
    (subst Q (sym c.sold-sold.ensures)
    (demand_falls p q j c.args.value c.args.value s.priced.limits s.priced.flow s.balanced c.requires.stay c.set_demand.ensures
    (omega (arith, c.sold-sold.ensures, c.if-value-sold.true))))

pub shift-requires-then-from-to-clause-slack : goal.shift-requires-then-from-to-clause-slack
shift-requires-then-from-to-clause-slack g c =
    let p : Priced = c.args.flow.now in
    let u : ℕ → ℕ = slice_index p.potentials in
    let j = c.args.stay in
    let s = c.requires.solved in
    let e = c.stay-terms.ensures.value in
    let from_is : c.from-from.result ≡ u c.stay-terms.result.span.from = search rules in
    let to_is : c.from-to.result ≡ u c.stay-terms.result.span.to = search rules in
    demand_slack p c.set_demand-then-from-to.new.flow j c.args.value c.args.value s.priced.flow s.slack c.requires.stay c.set_demand-then-from-to.ensures
    (λ l. absurd (omega arith)) (λ some.
    omega (arith, from_is, to_is, c.if-from-to.true, ap (λ (z : Stay). z.rate) e, ap (λ (z : Stay). u z.span.from) e, ap (λ (z : Stay). u z.span.to) e))

pub shift-requires-then-from-to-clause-imbalance : goal.shift-requires-then-from-to-clause-imbalance
shift-requires-then-from-to-clause-imbalance g c =
    let p : Priced = c.args.flow.now in
    let j = c.args.stay in
    let s = c.requires.solved in
    let q : Priced = c.set_demand-then-from-to.new.flow in
    let P : Stay → Type 0 = λ z. HasImbalance q.flow z.span.to z.span.from (c.args.value - c.sold-sold.result) in
    let Q : ℕ → Type 0 = λ y. HasImbalance q.flow (stay_at p.flow.program j).span.to (stay_at p.flow.program j).span.from (c.args.value - y) in
    subst P (sym c.stay-terms.ensures.value)
    (subst Q (sym c.sold-sold.ensures)
    (demand_rises p q j c.args.value c.args.value s.priced.limits s.priced.flow s.balanced c.requires.stay c.set_demand-then-from-to.ensures
    (omega (arith, c.sold-sold.ensures, c.if-value-sold.false))))

-- a stay that is worth more than its nights is sold up to its forecast
pub returns-then-from-to-clause-counted : goal.returns-then-from-to-clause-counted
returns-then-from-to-clause-counted g c =
    let p : Priced = c.args.flow.now in
    let u : ℕ → ℕ = slice_index p.potentials in
    let j = c.args.stay in
    let s = c.requires.solved in
    let e = c.stay-terms.ensures.value in
    let from_is : c.from-from.result ≡ u c.stay-terms.result.span.from = search rules in
    let to_is : c.from-to.result ≡ u c.stay-terms.result.span.to = search rules in
    let dear : slice_index p.flow.sell j < (stay_at p.flow.program j).forecast → ⊥ = λ short.
    let cheap = s.slack (sell_more j) (c.requires.stay, omega arith) in
    omega (
      arith,
      cheap,
      from_is,
      to_is,
      c.if-from-to.true,
      ap (λ (z : Stay). z.rate) e,
      ap (λ (z : Stay). u z.span.from) e,
      ap (λ (z : Stay). u z.span.to) e,
    ) in
    let full : (stay_at p.flow.program j).forecast ≤ slice_index p.flow.sell j = omega (arith, dear) in
    let counted = c.shift-then-from-to.ensures.counted in
    (omega (arith, counted.0), omega (arith, counted.1, full, c.sold-sold.ensures, c.if-value-sold.false))

pub returns-else-from-to-clause-balanced : goal.returns-else-from-to-clause-balanced
returns-else-from-to-clause-balanced g c =
    let p : Priced = c.args.flow.now in
    let j = c.args.stay in
    let s = c.requires.solved in
    let q : Priced = c.set_demand-else-from-to.new.flow in
    let P : ℕ → Type 0 = λ y. SetsDemand p q j c.args.value y in
    demand_stays p q j c.args.value s.priced.limits s.priced.flow s.balanced c.requires.stay (subst P c.sold-sold.ensures c.set_demand-else-from-to.ensures)

pub returns-else-from-to-clause-slack : goal.returns-else-from-to-clause-slack
returns-else-from-to-clause-slack g c =
    let p : Priced = c.args.flow.now in
    let u : ℕ → ℕ = slice_index p.potentials in
    let j = c.args.stay in
    let s = c.requires.solved in
    let e = c.stay-terms.ensures.value in
    let from_is : c.from-from.result ≡ u c.stay-terms.result.span.from = search rules in
    let to_is : c.from-to.result ≡ u c.stay-terms.result.span.to = search rules in
    demand_slack p c.set_demand-else-from-to.new.flow j c.args.value c.sold-sold.result s.priced.flow s.slack c.requires.stay c.set_demand-else-from-to.ensures
    (λ l. omega (arith, from_is, to_is, c.if-from-to.false, ap (λ (z : Stay). z.rate) e, ap (λ (z : Stay). u z.span.from) e, ap (λ (z : Stay). u z.span.to) e))
    (λ some. let dear = s.slack (sell_less j) (c.requires.stay, omega (arith, c.sold-sold.ensures, some)) in omega (arith, dear))
