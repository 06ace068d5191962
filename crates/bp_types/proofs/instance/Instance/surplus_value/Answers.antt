use Rattle.std.proofs.Common.{◌≤◌, ◌<◌, arith, ap, length, rules}
use Rattle.std.proofs.Math.Nat.{mul-le-mul}
use Rattle.bp_types.specs.declared.stay.Stay.{Stay}
use Rattle.bp_types.proofs.instance.Instance.surplus_value.Goals as goal

-- a forecast and a rate are within their limits
pub returns-clause-fits : goal.returns-clause-fits
returns-clause-fits c =
    let s : Stay = c.index-stay.result.now in
    let place : c.args.stay < length c.self.inside.stays.items = search rules in
    let forecast : c.from-2.result ≤ 1000000 =
    omega (arith, c.from-2.ensures, c.self.invariant.forecasts c.args.stay s place, ap (λ (z : Stay). z.forecast) c.index-stay.ensures) in
    let rate : s.rate ≤ 1000000000 = omega (arith, (c.self.invariant.rates c.args.stay s place).1, ap (λ (z : Stay). z.rate) c.index-stay.ensures) in
    let over : c.saturating_sub-over.result ≤ 1000000000 = omega (arith, rate, c.from.ensures, c.saturating_sub-over.ensures) in
    omega (arith, mul-le-mul forecast over)
