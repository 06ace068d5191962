use Rattle.std.proofs.Common.{sym, ◌∙◌, refl}
use Rattle.bp_flow.proofs.WaySteps.{start_moved}
use Rattle.bp_flow.proofs.ways.step_start.Goals as goal

pub returns-then-tail-start-clause-shifting : goal.returns-then-tail-start-clause-shifting
returns-then-tail-start-clause-shifting c =
    (start_moved c.args.flow.now c.push.new.self c.args.start c.args.end c.args.units c.head-head.result c.args.hop c.nights-nights.ensures.priced
    c.requires.slack (c.if-is_open.ensures refl) (sym c.tail.ensures ∙
    c.if-tail-start.true) c.head-head.ensures c.requires.imbalance c.push.ensures.flow c.push.ensures.potentials).0
