use Rattle.std.proofs.Common.{◌≡◌, length, All}
use Rattle.bp_optimise.specs.Sessions.{AreInRange}
use Rattle.bp_desk_run_tests.proofs.runs.scripts.Given as goal

abbrev pub invariant-loop-i : goal.invariant-loop-i
invariant-loop-i l = All (AreInRange l.house) l.scripts.items × (length l.scripts.items ≡ l.i)
