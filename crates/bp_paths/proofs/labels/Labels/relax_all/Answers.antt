use Rattle.std.proofs.Common.{refl}
use Rattle.bp_paths.proofs.labels.Labels.relax_all.Goals as goal

pub loop-place-init : goal.loop-place-init
loop-place-init c = (c.requires.labels c.hops_at-hops.result.now c.hops_at-hops.ensures, refl, refl)
