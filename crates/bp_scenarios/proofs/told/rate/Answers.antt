use Rattle.std.proofs.Common.{refl}
use Rattle.bp_types.specs.declared.change.Change.TheVariants.{Rate}
use Rattle.bp_scenarios.proofs.ChangeLemmas.{rate_told}
use Rattle.bp_scenarios.proofs.told.rate.Goals as goal

pub returns-in-Some : goal.returns-in-Some
returns-in-Some c =
    let w = c.in-Some.ensures in (
      Rate w.0 w.1,
      refl,
      w.2,
      rate_told c.args.size.nights c.args.size.stays w.0 w.1 c.in-Some.stay c.in-Some.rate c.either-great.result c.is_no_stay.result c.is_no_rate.result w.3
          w.4 c.is_no_stay.ensures c.is_no_rate.ensures c.either-great.ensures,
    )
