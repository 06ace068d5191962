use Rattle.std.proofs.Common.{◌≡◌, ◌+◌, length}
use Rattle.bp_stayfile.proofs.ReadLemmas.{IsReadUpTo}
use Rattle.bp_script.specs.Scripts.{request_rule}
use Rattle.bp_script.proofs.script.requests_under.Given as goal

-- the rows up to this one are read
abbrev pub invariant-loop-requests : goal.invariant-loop-requests
invariant-loop-requests l = record {
  read : IsReadUpTo (request_rule l.hotel l.codes) l.fn.header.behind l.at.behind l.requests.items;
  line : l.at.line ≡ length l.requests.items + 1;
  columns : l.at.behind.columns ≡ 6;
}

abbrev pub decreases-loop-requests : goal.decreases-loop-requests
decreases-loop-requests l = length l.at.behind.rows
