use Rattle.std.proofs.Common.{◌≡◌, take}
use Rattle.bp_problem_house.proofs.house.stays_of.Given as goal

-- the stays before this one
abbrev pub invariant-loop-stay : goal.invariant-loop-stay
invariant-loop-stay l = l.stays.items ≡ take l.stay l.problem.stays
