use Rattle.std.proofs.Common.{◌≡◌, ◌+◌, List, length}
use Rattle.bp_stayfile.specs.declared.counts.Counted.{Counted}
use Rattle.bp_stayfile.specs.Counts.{count_rule}
use Rattle.bp_stayfile.specs.LaidOut.{AreLaidOut}
use Rattle.bp_stayfile.proofs.ReadLemmas.{IsReadUpTo}
use Rattle.bp_stayfile.proofs.counts.put_counts.Given as goal

-- the rows up to this one are read
abbrev pub invariant-loop-row : goal.invariant-loop-row
invariant-loop-row l = record {
  before : List Counted;
  read : IsReadUpTo (count_rule l.codes) l.fn.header.behind l.at.behind before;
  line : l.at.line ≡ length before + 1;
  columns : l.at.behind.columns ≡ 2;
  laid_out : AreLaidOut (length l.codes) before l.counts;
}

abbrev pub decreases-loop-row : goal.decreases-loop-row
decreases-loop-row l = length l.at.behind.rows
