use Rattle.std.proofs.Common.{◌<◌, length, arith, false}
use Rattle.bp_residual.specs.declared.hop.Hop.{Hop}
use Rattle.bp_residual.proofs.PushLoop.{rooms_left_at, left_next, left_after}
use Rattle.bp_residual.proofs.flow.Flow.push.Goals as goal

pub push_hop-requires : goal.push_hop-requires
push_hop-requires c =
    let i = c.loop-hop.hop-index in
    let d : Hop = record { arc = 0; forward = false } in
    let in_range : i < length c.args.path.now = omega arith in
    left_next _ _ _ _ _ _ _ (rooms_left_at _ _ c.args.path.now i d _ _ _ in_range c.loop-hop.invariant)

pub loop-hop-preserved : goal.loop-hop-preserved
loop-hop-preserved c =
    let i = c.loop-hop.hop-index in
    let d : Hop = record { arc = 0; forward = false } in
    let in_range : i < length c.args.path.now = omega arith in
    left_after _ _ _ _ _ _ _ _ _ c.push_hop.ensures.flow c.push_hop.ensures.potentials
    (rooms_left_at _ _ c.args.path.now i d _ _ _ in_range c.loop-hop.invariant)
