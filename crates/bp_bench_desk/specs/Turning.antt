-- What a bench knows of a seat between two turns.
use Rattle.std.specs.Prelude.{◌≡◌, ℕ, false}
use Rattle.atomic_table.specs.Seated.{TableId}
use Rattle.bp_turn.specs.Seat.{SeatState}

-- it is a seat of this lock with this number, and it is not its turn
abbrev pub IsReady : {F E : Type 0} → TableId → ℕ → SeatState F E → Type 0
IsReady lock number seat = (seat.lock ≡ lock) × (seat.has_turn ≡ false) × (seat.number ≡ number)
