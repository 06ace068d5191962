use Rattle.std.proofs.Common.{◌≡◌, ℕ, ◌≤◌, List, ◌++◌, length}
use Rattle.bp_edges.specs.Writing.{Appended}
use Rattle.bp_text.proofs.write.write_text.Given as goal

-- a first part of the text was written, and the rest is left
abbrev pub invariant-loop-rest : goal.invariant-loop-rest
invariant-loop-rest g l =
    let sink = g.K.Sink in
    record {
      part : List ℕ;
      splits : l.text ≡ part ++ l.rest;
      written : Appended (sink.written l.fn.out) (sink.written l.out) part;
      steady : sink.steady l.fn.out → sink.steady l.out;
      faults : sink.faults l.fn.out ≤ sink.faults l.out;
    }

abbrev pub decreases-loop-rest : goal.decreases-loop-rest
decreases-loop-rest g l = length l.rest
