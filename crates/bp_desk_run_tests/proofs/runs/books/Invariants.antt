use Rattle.bp_optimise.specs.Sessions.{AreInRange}
use Rattle.bp_desk_run_tests.proofs.runs.books.Given as goal

abbrev pub invariant-loop-stay : goal.invariant-loop-stay
invariant-loop-stay l = AreInRange l.house l.list.items
