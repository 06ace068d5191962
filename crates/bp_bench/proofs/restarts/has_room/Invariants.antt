use Rattle.std.proofs.Common.{ℕ, ◌<◌, ◌≤◌, slice_index}
use Rattle.bp_bench.proofs.restarts.has_room.Given as goal

-- the nights before this one have a room
abbrev pub invariant-loop-night : goal.invariant-loop-night
invariant-loop-night l = (k : ℕ) → l.fn.span.from ≤ k → k < l.night → 1 ≤ slice_index l.solver.flow.program.rooms k
