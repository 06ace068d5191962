use Rattle.std.proofs.Common.{◌≡◌, ℕ, ◌<◌}
use Rattle.bp_types.specs.Program.{stay_at}
use Rattle.bp_residual.proofs.alike.is_alike.Given as goal

abbrev pub invariant-loop-stay : goal.invariant-loop-stay
invariant-loop-stay l = (j : ℕ) → j < l.stay → (stay_at l.instance j).span ≡ (stay_at l.other j).span
