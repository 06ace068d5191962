use Rattle.std.proofs.Common.{◌≡◌, ℕ, List, ◌++◌, length}
use Rattle.bp_edges.specs.Writing.{Appended}
use Rattle.bp_edges.proofs.out_sink.write_out.Given as goal

-- a first part of the piece was written, and the rest is left
abbrev pub invariant-loop-rest : goal.invariant-loop-rest
invariant-loop-rest g l =
    let contents = g.W.Write.contents in
    (part : List ℕ) × (l.initial.rest ≡ part ++ l.rest) × Appended (contents l.initial.out) (contents l.out) part

abbrev pub decreases-loop-rest : goal.decreases-loop-rest
decreases-loop-rest g l = length l.rest
