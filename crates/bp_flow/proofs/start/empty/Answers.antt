use Rattle.bp_flow.proofs.Cold.{cold_none, none_repaired}
use Rattle.bp_flow.proofs.start.empty.Goals as goal

pub returns-clause-so_far : goal.returns-clause-so_far
returns-clause-so_far c =
    cold_none c.args.instance.now c.in_ok-copy.field-0 c.in_ok-flow.flow c.in_ok-copy.ensures c.nights-nights.ensures.priced c.in_ok-flow.ensures

pub returns-clause-few : goal.returns-clause-few
returns-clause-few c = none_repaired c.args.instance.now c.in_ok-copy.field-0 c.in_ok-flow.flow c.in_ok-flow.ensures
