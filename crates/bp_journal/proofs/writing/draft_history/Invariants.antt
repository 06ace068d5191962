use Rattle.std.proofs.Common.{◌≤◌, ◌++◌}
use Rattle.bp_text.specs.Drafts.{IsDrafted}
use Rattle.bp_journal.proofs.WritingLemmas.{so_far}
use Rattle.bp_journal.proofs.writing.draft_history.Given as goal

-- the lines of the places before this one are behind the draft
abbrev pub invariant-loop-place : goal.invariant-loop-place
invariant-loop-place g l =
    let sink = g.K.Sink in
    record {
      drafted : IsDrafted (sink.written l.fn.out) (sink.written l.out) l.draft (l.fn.draft ++ so_far l.book.history l.place);
      steady : sink.steady l.fn.out → sink.steady l.out;
      faults : sink.faults l.fn.out ≤ sink.faults l.out;
    }
