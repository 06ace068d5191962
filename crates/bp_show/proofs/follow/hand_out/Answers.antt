use Rattle.std.proofs.Common.{rules}
use Rattle.bp_show.proofs.Steps.{splits_gift}
use Rattle.bp_show.proofs.follow.hand_out.Goals as goal

pub split_seat-seat-requires : goal.split_seat-seat-requires
split_seat-seat-requires c = (search rules, search rules, splits_gift _ _)
