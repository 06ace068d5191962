use Rattle.std.proofs.Common.{◌+◌, ◌-◌, ◌≤◌, [], length}
use Rattle.bp_edges.specs.Reading.{TakesOver}
use Rattle.bp_edges.proofs.reading.read_up_to.Given as goal

-- the bytes are the first that the file had, at most one more than the limit
abbrev pub invariant-loop-piece : goal.invariant-loop-piece
invariant-loop-piece g l =
    let remaining = g.F.Read.remaining in
    record {
      short : length l.bytes.items ≤ l.limit + 1;
      taken : TakesOver (remaining l.initial.file) (remaining l.file) [] l.bytes.items;
    }

abbrev pub decreases-loop-piece : goal.decreases-loop-piece
decreases-loop-piece g l = l.limit + 1 - length l.bytes.items
