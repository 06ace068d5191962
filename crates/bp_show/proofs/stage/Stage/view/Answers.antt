use Rattle.std.proofs.Common.{rules}
use Rattle.bp_show.proofs.Faces.{admits, forks, merges}
use Rattle.bp_show.proofs.Steps.{splits_note}
use Rattle.bp_show.proofs.stage.Stage.view.Goals as goal

pub reader-requires : goal.reader-requires
reader-requires c = admits

pub tell-requires : goal.tell-requires
tell-requires c = forks _ _

pub learn-requires-clause-rule : goal.learn-requires-clause-rule
learn-requires-clause-rule c = merges _ _ _ _

pub split_seat-place-requires : goal.split_seat-place-requires
split_seat-place-requires c = (search rules, search rules, splits_note _ _)
