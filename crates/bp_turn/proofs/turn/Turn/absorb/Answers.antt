use Rattle.std.proofs.Common.{rules}
use Rattle.bp_turn.proofs.Joins.{absorbs, learns}
use Rattle.bp_turn.proofs.turn.Turn.absorb.Goals as goal

pub join_seat-requires : goal.join_seat-requires
join_seat-requires g c =
    (search rules, search rules, search rules, search rules, absorbs _ _ _ _ _ _ _ _ (search rules) (search rules) (search rules) (search rules))

pub load-requires : goal.load-requires
load-requires g c = (search rules, search rules, learns _ _ _ _ _ _ _)
