use Rattle.std.proofs.Common.{◌≡◌, ℕ, ◌+◌, ◌≤◌, List, ◌++◌, length}
use Rattle.bp_text.specs.Drafts.{IsDrafted}
use Rattle.bp_text.proofs.draft.Draft.push_in_pieces.Given as goal

-- a first part of the bytes is behind the draft, and the rest is left
abbrev pub invariant-loop-rest : goal.invariant-loop-rest
invariant-loop-rest g l =
    let sink = g.K.Sink in
    record {
      taken : List ℕ;
      splits : l.bytes ≡ taken ++ l.rest;
      drafted : IsDrafted (sink.written l.fn.out) (sink.written l.out) l.self (l.fn.self ++ taken);
      steady : sink.steady l.fn.out → sink.steady l.out;
      faults : sink.faults l.fn.out ≤ sink.faults l.out;
    }

abbrev pub decreases-loop-rest : goal.decreases-loop-rest
decreases-loop-rest g l = length l.rest + length l.self
