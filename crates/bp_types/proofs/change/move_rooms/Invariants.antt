use Rattle.std.proofs.Common.{◌≡◌, ℕ, ◌<◌, ◌≤◌, slice_index}
use Rattle.bp_types.specs.Rooms.{room_moved}
use Rattle.bp_types.proofs.change.move_rooms.Given as goal

-- the nights before this one are done, and the others as they were
abbrev pub invariant-loop-night : goal.invariant-loop-night
invariant-loop-night l = record {
  done : (k : ℕ) → k < l.night → slice_index l.rooms k ≡ room_moved l.fn.rooms l.fn.span l.up l.units k;
  left : (k : ℕ) → l.night ≤ k → slice_index l.rooms k ≡ slice_index l.fn.rooms k;
}
