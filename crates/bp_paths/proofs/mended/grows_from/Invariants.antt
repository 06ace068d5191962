use Rattle.bp_paths.proofs.Mending.{GrowsBelow}
use Rattle.bp_paths.proofs.mended.grows_from.Given as goal

abbrev pub invariant-loop-place : goal.invariant-loop-place
invariant-loop-place l = GrowsBelow l.flow l.kept l.reach l.hops l.place
