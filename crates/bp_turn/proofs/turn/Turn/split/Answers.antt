use Rattle.std.proofs.Common.{rules}
use Rattle.bp_turn.proofs.Looks.{chooses}
use Rattle.bp_turn.proofs.Splits.{splits, rests_less_choice}
use Rattle.bp_turn.proofs.turn.Turn.split.Goals as goal

pub compare_exchange-requires : goal.compare_exchange-requires
compare_exchange-requires g c = (search rules, search rules, chooses _ _ _ _ _ _ _ _)

pub split_seat-place-requires : goal.split_seat-place-requires
split_seat-place-requires g c = (search rules, search rules, splits _ _ _ _ _ _ (rw (c.compare_exchange.ensures.2) (search rules)))

pub invariant_of-seat : goal.invariant_of-seat
invariant_of-seat g c = rw (
  c.split_seat-place.ensures.2,
  c.compare_exchange.ensures.2,
)
    (rests_less_choice g.B.Story.fixed g.B.Story.story g.B.Story.caller (g.B.Story.fixed c.self.inside.table.shared.key.value) _ _ c.seat.invariant)
