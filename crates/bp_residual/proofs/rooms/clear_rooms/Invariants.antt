use Rattle.std.proofs.Common.{◌≡◌, ℕ, ◌<◌, slice_index, length}
use Rattle.bp_residual.proofs.rooms.clear_rooms.Given as goal

abbrev pub invariant-loop-night : goal.invariant-loop-night
invariant-loop-night l =
    ((n : ℕ) → n < l.night → slice_index l.instance.rooms n ≡ 0) × (length l.instance.rooms ≡ length l.fn.instance.rooms) ×
    (l.instance.stays ≡ l.fn.instance.stays)
