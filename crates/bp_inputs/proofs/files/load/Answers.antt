use Rattle.bp_inputs.specs.Stages.{Stage}
use Rattle.bp_inputs.proofs.StageLemmas.{stops_by_reader}
use Rattle.bp_inputs.proofs.files.load.Goals as goal

pub returns-clause-follows : goal.returns-clause-follows
returns-clause-follows g c =
    let stage : Stage = record {
      name = c.args.name.now;
      most = g.K.Kind.most c.args.kind.now;
      Value = _;
      Accepts = g.K.Kind.accepts c.args.kind.now;
      Refuses = g.K.Kind.refuses c.args.kind.now;
    } in
    stops_by_reader _ stage _ _ _ _ c.in-Err.unread _ c.in_ok-bytes.ensures.leaves c.most_bytes.ensures c.in_ok-bytes.ensures.read c.deref.ensures.value
    c.in-Err.ensures.refused c.by_reader.ensures
