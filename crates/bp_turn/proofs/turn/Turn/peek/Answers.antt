use Rattle.std.proofs.Common.{rules}
use Rattle.bp_turn.proofs.Looks.{looks_at_length}
use Rattle.bp_turn.proofs.turn.Turn.peek.Goals as goal

pub load-requires : goal.load-requires
load-requires g c = (search rules, search rules, looks_at_length _ _ _ _ _ _ _)
