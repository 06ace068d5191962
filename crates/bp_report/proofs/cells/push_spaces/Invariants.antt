use Rattle.std.proofs.Common.{◌≡◌, ◌++◌, replicate}
use Rattle.bp_report.proofs.cells.push_spaces.Given as goal

-- so many spaces are there
abbrev pub invariant-loop-place : goal.invariant-loop-place
invariant-loop-place l = l.line.items ≡ l.fn.line.items ++ replicate l._place 32
