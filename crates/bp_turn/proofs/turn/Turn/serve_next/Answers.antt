use Rattle.std.proofs.Common.{rules}
use Rattle.bp_turn.proofs.Leaves.{leaves}
use Rattle.bp_turn.proofs.turn.Turn.serve_next.Goals as goal

pub fetch_add-requires : goal.fetch_add-requires
fetch_add-requires g c = let slot = c.requires.slot in
    (search rules, search rules, leaves _ _ _ _ _ _ _ slot.0 slot.1 (search rules) (search rules) slot.2 slot.3)
