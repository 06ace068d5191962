-- Rooms that are left, and rooms that were taken, on the nights of a span.
use Rattle.std.proofs.Common.{◌≡◌, ℕ, ◌-◌, ◌≤◌, arith, true, length, None, nat_lt}
use Rattle.std.proofs.lemmas.Bool.{ltb-false}
use Rattle.bp_types.specs.declared.stay.Span.{Span}
use Rattle.bp_types.specs.Spans.{first_short}
use Rattle.bp_types.proofs.Firsts.{none_passes}
use Rattle.bp_types.proofs.RoomLemmas.{rooms_moved-at, room_moved-inside}
use Rattle.bp_ledger.specs.Inventory.{Inventory, HasLeft, HasSold, rooms_left_on, taken}

-- where no night is short, each has as many left
pub has_left : (v : Inventory) (s : Span) (units : ℕ) → first_short (rooms_left_on v) s units ≡ None → HasLeft v s units
has_left v s units none n above below = ltb-false _ _ (none_passes (λ k. nat_lt (rooms_left_on v k) units) s.from (s.to - s.from) none n above (omega arith))

-- what was taken is sold
pub has_sold : (v : Inventory) (s : Span) (units : ℕ) → s.to ≤ length v.sold → HasSold (taken v s units) s units
has_sold v s units within n above below =
    let e = rooms_moved-at v.sold s true units n 0 (omega arith) in
    let f = room_moved-inside v.sold s true units n above below in
    omega (arith, e, f)
