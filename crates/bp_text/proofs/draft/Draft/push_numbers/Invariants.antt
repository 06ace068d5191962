use Rattle.std.proofs.Common.{◌≤◌, ◌++◌, take}
use Rattle.bp_text.specs.Lines.{numbers_text}
use Rattle.bp_text.specs.Drafts.{IsDrafted}
use Rattle.bp_text.proofs.draft.Draft.push_numbers.Given as goal

-- the numbers before this one are behind the draft
abbrev pub invariant-loop-number : goal.invariant-loop-number
invariant-loop-number g l =
    let sink = g.K.Sink in
    record {
      drafted : IsDrafted (sink.written l.fn.out) (sink.written l.out) l.self (l.fn.self ++ numbers_text (take l.number-index l.numbers));
      steady : sink.steady l.fn.out → sink.steady l.out;
      faults : sink.faults l.fn.out ≤ sink.faults l.out;
    }
