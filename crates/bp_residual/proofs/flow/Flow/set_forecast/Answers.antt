use Rattle.std.proofs.Common.{◌<◌, ◌≤◌, length, slice_index, ap, arith}
use Rattle.bp_types.specs.declared.change.Change.TheVariants.{Demand}
use Rattle.bp_residual.specs.Network.{Priced}
use Rattle.bp_residual.proofs.Ends.{ends_after}
use Rattle.bp_residual.proofs.Changed.{demand_keeps_priced}
use Rattle.bp_residual.proofs.flow.Flow.set_forecast.Goals as goal

pub invariant_of-self : goal.invariant_of-self
invariant_of-self c =
    let in_range : c.args.stay < length c.self.inside.instance.stays =
    omega (arith, c.requires.stay, ap (λ (p : Priced). length p.flow.program.stays) c.self.view_is) in
    let sold : slice_index c.self.inside.sell.items c.args.stay ≤ c.args.value =
    omega (arith, c.requires.sold, ap (λ (p : Priced). slice_index p.flow.sell c.args.stay) c.self.view_is) in (
      demand_keeps_priced _ _ c.args.stay c.args.value c.self.invariant.0 c.apply.ensures.limits in_range sold c.apply.ensures.changed,
      ends_after _ _ _ (Demand c.args.stay c.args.value) c.apply.ensures.changed c.self.invariant.1,
    )
