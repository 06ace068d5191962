use Rattle.std.proofs.Common.{◌≡◌, map}
use Rattle.std.specs.List.{range_with_len}
use Rattle.bp_types.specs.House.{units_left}
use Rattle.bp_types.proofs.house.House.rooms_left.Given as goal

-- the nights before this one are done
abbrev pub invariant-loop-night : goal.invariant-loop-night
invariant-loop-night l = l.left.items ≡ map (units_left l.self) (range_with_len 0 l.night)
