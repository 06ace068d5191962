use Rattle.std.proofs.Common.{arith, rules}
use Rattle.bp_paths.proofs.Mending.{grows_by_hops}
use Rattle.bp_paths.proofs.mended.grows_from.Goals as goal

pub returns : goal.returns
returns c is =
    grows_by_hops c.args.flow.now c.args.kept.now c.args.node _ c.hops_at-hops.result.now c.hops_at-hops.ensures (search rules)
    (λ i h. c.loop-place.invariant i (omega (arith, h, c.loop-place-test.false)))
