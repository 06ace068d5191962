use Rattle.std.proofs.Common.{rules}
use Rattle.bp_show.proofs.Steps.{splits_note, joins_told, joins_took, settles}
use Rattle.bp_show.proofs.stage.Stage.meet.Goals as goal

pub split_seat-note-requires : goal.split_seat-note-requires
split_seat-note-requires c = (search rules, search rules, splits_note _ _)

pub join_seat-requires : goal.join_seat-requires
join_seat-requires c = (search rules, search rules, search rules, search rules, joins_told _ _ _ _)

pub load-view-inside-requires : goal.load-view-inside-requires
load-view-inside-requires c = (search rules, search rules, settles _ _ _ (search rules))

pub split_seat-note-requires-2 : goal.split_seat-note-requires-2
split_seat-note-requires-2 c = (search rules, search rules, splits_note _ _)

pub join_seat-requires-2 : goal.join_seat-requires-2
join_seat-requires-2 c = (search rules, search rules, search rules, search rules, joins_took _ _ _ _ (search rules))
