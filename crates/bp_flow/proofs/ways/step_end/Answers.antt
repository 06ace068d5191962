use Rattle.std.proofs.Common.{sym, ◌∙◌, refl}
use Rattle.bp_flow.proofs.WaySteps.{end_moved}
use Rattle.bp_flow.proofs.ways.step_end.Goals as goal

pub returns-then-head-end-clause-shifting : goal.returns-then-head-end-clause-shifting
returns-then-head-end-clause-shifting c =
    (end_moved c.args.flow.now c.push.new.self c.args.start c.args.end c.args.units c.tail-tail.result c.args.hop c.nights-nights.ensures.priced
    c.requires.slack (c.if-is_open.ensures refl) (sym c.head.ensures ∙
    c.if-head-end.true) c.tail-tail.ensures c.requires.imbalance c.push.ensures.flow c.push.ensures.potentials).0
