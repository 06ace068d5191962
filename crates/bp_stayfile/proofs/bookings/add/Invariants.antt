use Rattle.std.proofs.Common.{◌≡◌, ℕ, ◌+◌, slice_index, cond, nat_le, nat_lt, ◌&&◌}
use Rattle.bp_stayfile.proofs.bookings.add.Given as goal

-- the nights of the span before this one have the rooms more
abbrev pub invariant-loop-night : goal.invariant-loop-night
invariant-loop-night l =
    (n : ℕ) → slice_index l.sold n ≡ slice_index l.fn.sold n + cond (nat_le l.fn.span.from n && nat_lt n l.night) l.rooms 0
