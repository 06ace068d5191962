use Rattle.std.proofs.Common.{refl}
use Rattle.bp_types.specs.declared.change.Change.TheVariants.{Demand}
use Rattle.bp_scenarios.proofs.ChangeLemmas.{demand_told}
use Rattle.bp_scenarios.proofs.told.demand.Goals as goal

pub returns-in-Some : goal.returns-in-Some
returns-in-Some c =
    let w = c.in-Some.ensures in (
      Demand w.0 w.1,
      refl,
      w.2,
      demand_told c.args.size.nights c.args.size.stays w.0 w.1 c.in-Some.stay c.in-Some.forecast c.either-great.result c.is_no_stay.result w.3 w.4
          c.is_no_stay.ensures c.either-great.ensures,
    )
