use Rattle.std.proofs.Common.{◌≡◌, take}
use Rattle.bp_problem_house.proofs.house.rooms_of.Given as goal

-- the rooms of the nights before this one
abbrev pub invariant-loop-night : goal.invariant-loop-night
invariant-loop-night l = l.rooms.items ≡ take l.night l.problem.rooms
