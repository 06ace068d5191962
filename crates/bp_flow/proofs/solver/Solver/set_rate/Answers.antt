use Rattle.std.proofs.Common.{◌≡◌, ◌<◌, ap, sym, subst, length, arith}
use Rattle.bp_residual.specs.Network.{Priced}
use Rattle.bp_flow.specs.Rates.{StandsAtRate}
use Rattle.bp_flow.specs.Solving.{Solving, priced}
use Rattle.bp_flow.proofs.Rates.{rerated_solved}
use Rattle.bp_flow.proofs.solver.Solver.set_rate.Goals as goal

pub invariant_of-self : goal.invariant_of-self
invariant_of-self c =
    let F : Solving → Type 0 = λ p. (c.args.stay < length p.flow.program.stays) × StandsAtRate (priced p) c.args.stay c.args.value in
    let facts = subst F (sym c.self.view_is) (c.requires.fits.0, c.requires.stands) in
    let nights = ap (λ (p : Priced). length p.flow.program.rooms) c.set_rate.ensures in (
      rerated_solved c.self.inside.flow c.set_rate.new.self c.args.stay c.args.value c.self.invariant.0 c.nights-nights.ensures.priced facts.0 facts.1
          c.set_rate.ensures,
      omega (arith, nights, c.self.invariant.1),
    )

pub returns-clause-solved : goal.returns-clause-solved
returns-clause-solved c =
    let F : Solving → Type 0 = λ p. (c.args.stay < length p.flow.program.stays) × StandsAtRate (priced p) c.args.stay c.args.value in
    let facts = subst F (sym c.self.view_is) (c.requires.fits.0, c.requires.stands) in
    rerated_solved c.self.inside.flow c.set_rate.new.self c.args.stay c.args.value c.self.invariant.0 c.nights-nights.ensures.priced facts.0 facts.1
    c.set_rate.ensures
