use Rattle.bp_core.specs.Calls.{Continues}
use Rattle.bp_core_tests.proofs.desk.Desk.run.Given as goal

-- the rows before this one are called
abbrev pub invariant-loop-row : goal.invariant-loop-row
invariant-loop-row g l = Continues l.fn.self l.self
