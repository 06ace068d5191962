use Rattle.std.proofs.Common.{◌≡◌, arith, min, rules}
use Rattle.bp_residual.specs.Network.{Priced}
use Rattle.bp_flow.proofs.ShiftStep.{shifted}
use Rattle.bp_flow.proofs.moves.augment.Goals as goal

-- while the imbalance stands there is a residual path
pub unreachable-requires : goal.unreachable-requires
unreachable-requires g c =
    let p : Priced = c.args.flow.now in
    let priced = c.nights-nights.ensures.priced in
    let path = c.paths_exist.ensures p.flow c.args.from c.args.to c.args.left priced.limits priced.flow (omega (arith, c.requires.from))
    (omega (arith, c.requires.to)) c.requires.some c.requires.imbalance in
    c.in-Unreached.ensures.found.0 path.0 path.1

pub returns-clause-shifting : goal.returns-clause-shifting
returns-clause-shifting g c =
    let amount_is : c.min-amount.result ≡ min c.in-Reached.units c.args.left = search rules in
    shifted c.args.flow.now c.push.new.self c.lift_by_distances.new.flow c.args.from c.args.to c.in-Reached.units c.min-amount.result c.args.left
    c.reach.new.scratch c.path.result.now c.nights-nights.ensures.priced c.requires.to c.requires.slack c.in-Reached.ensures.found.1
    c.in-Reached.ensures.found.0 c.path.ensures (omega (arith, amount_is)) (omega (arith, amount_is))
    c.requires.few c.requires.imbalance c.push.ensures.flow c.push.ensures.potentials c.lift_by_distances.ensures.flow c.lift_by_distances.ensures.lifted
