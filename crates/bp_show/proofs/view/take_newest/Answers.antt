use Rattle.std.proofs.Common.{rules}
use Rattle.bp_show.proofs.Faces.{sees}
use Rattle.bp_show.proofs.Steps.{splits_gift}
use Rattle.bp_show.proofs.view.take_newest.Goals as goal

pub enter_as-requires : goal.enter_as-requires
enter_as-requires c = sees _ _

pub split_seat-seat-requires : goal.split_seat-seat-requires
split_seat-seat-requires c = (search rules, search rules, splits_gift _ _)
