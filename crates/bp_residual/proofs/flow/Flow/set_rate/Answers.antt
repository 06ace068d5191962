use Rattle.std.proofs.Common.{◌<◌, length, ap, arith}
use Rattle.bp_types.specs.declared.change.Change.TheVariants.{Rate}
use Rattle.bp_residual.specs.Network.{Priced}
use Rattle.bp_residual.proofs.Ends.{ends_after}
use Rattle.bp_residual.proofs.Changed.{rate_keeps_priced}
use Rattle.bp_residual.proofs.flow.Flow.set_rate.Goals as goal

pub invariant_of-self : goal.invariant_of-self
invariant_of-self c =
    let in_range : c.args.stay < length c.self.inside.instance.stays =
    omega (arith, c.requires.stay, ap (λ (p : Priced). length p.flow.program.stays) c.self.view_is) in (
      rate_keeps_priced _ _ c.args.stay c.args.rate c.self.invariant.0 c.apply.ensures.limits in_range c.apply.ensures.changed,
      ends_after _ _ _ (Rate c.args.stay c.args.rate) c.apply.ensures.changed c.self.invariant.1,
    )
