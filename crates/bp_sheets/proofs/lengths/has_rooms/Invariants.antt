use Rattle.std.proofs.Common.{◌≡◌, ℕ, ◌<◌, ◌≤◌, false, nat_lt, slice_index}
use Rattle.bp_sheets.proofs.lengths.has_rooms.Given as goal

-- no night of the span before this one is short
abbrev pub invariant-loop-night : goal.invariant-loop-night
invariant-loop-night l = (k : ℕ) → l.fn.span.from ≤ k → k < l.night → nat_lt (slice_index l.instance.rooms k) 1 ≡ false
