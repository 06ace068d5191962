use Rattle.std.proofs.Common.{◌≡◌, ◌+◌, List, length}
use Rattle.bp_stayfile.specs.Stays.{Coded, stay_rule, codes_of, stays_of}
use Rattle.bp_stayfile.proofs.ReadLemmas.{IsReadUpTo}
use Rattle.bp_stayfile.proofs.stays_file.stays_under.Given as goal

-- the rows up to this one are read
abbrev pub invariant-loop-stays : goal.invariant-loop-stays
invariant-loop-stays l = record {
  before : List Coded;
  read : IsReadUpTo (stay_rule l.hotel) l.fn.header.behind l.at.behind before;
  line : l.at.line ≡ length before + 1;
  columns : l.at.behind.columns ≡ 4;
  codes : l.codes ≡ codes_of before;
  stays : l.stays.items ≡ stays_of before;
}

abbrev pub decreases-loop-stays : goal.decreases-loop-stays
decreases-loop-stays l = length l.at.behind.rows
