use Rattle.std.proofs.Common.{ℕ, List, ◌∷◌, Option, Some, rules, sym, ◌∙◌, ap}
use Rattle.atomic_table.specs.Table.{rest}
use Rattle.bp_turn.proofs.Draws.{draws}
use Rattle.bp_turn.proofs.turn.Turn.take.Goals as goal

pub fetch_add-ticket-requires : goal.fetch_add-ticket-requires
fetch_add-ticket-requires g c = (search rules, search rules, draws _ _ _ _ _ _ _ c.seat.invariant.sound.numbered (search rules))

-- the slot that was taken last is the value's
pub exchange-requires : goal.exchange-requires
exchange-requires g c =
    let took = c.wait.ensures.took in
    let slots = ap (λ m. m.1) took.1 in
    (search rules, (Some took.0, slots ∙ ap (λ (xs : List (ℕ × Option g.row.B.Denot)). (0, Some took.0) ∷ xs) (sym (ap rest slots))))
