use Rattle.std.proofs.Common.{length}
use Rattle.bp_journal.proofs.PlaceLemmas.{SoFar}
use Rattle.bp_journal.proofs.reading.read_entries.Given as goal

-- the entries so far were given
abbrev pub invariant-loop-line : goal.invariant-loop-line
invariant-loop-line l = SoFar l.version l.fn.lines l.lines l.journal

abbrev pub decreases-loop-line : goal.decreases-loop-line
decreases-loop-line l = length l.lines.rest
