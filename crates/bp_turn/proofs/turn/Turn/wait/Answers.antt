use Rattle.std.proofs.Common.{rules}
use Rattle.bp_turn.proofs.Calls.{calls}
use Rattle.bp_turn.proofs.turn.Turn.wait.Goals as goal

pub load-serving-requires : goal.load-serving-requires
load-serving-requires g c = (search rules, search rules, calls _ _ _ _ _ _ _ (search rules) (search rules) (search rules))
