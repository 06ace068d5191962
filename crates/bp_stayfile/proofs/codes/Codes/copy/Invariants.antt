use Rattle.std.proofs.Common.{◌≡◌, take}
use Rattle.bp_stayfile.proofs.codes.Codes.copy.Given as goal

-- the codes before this one are copied
abbrev pub invariant-loop-stay : goal.invariant-loop-stay
invariant-loop-stay l = l.copied ≡ take l.stay l.self
