use Rattle.std.proofs.Common.{◌≡◌, ◌≤◌, ◌++◌}
use Rattle.bp_text.specs.Drafts.{IsDrafted}
use Rattle.bp_scenarios.proofs.PrintedLemmas.{so_far}
use Rattle.bp_scenarios.proofs.printed.draft_outcomes.Given as goal

-- the lines of the outcomes before this place are behind the draft
abbrev pub invariant-loop-outcome : goal.invariant-loop-outcome
invariant-loop-outcome g l =
    let sink = g.K.Sink in
    record {
      number : l.number ≡ l.outcome-index;
      drafted : IsDrafted (sink.written l.fn.out) (sink.written l.out) l.draft (l.fn.draft ++ so_far l.outcomes l.outcome-index);
      steady : sink.steady l.fn.out → sink.steady l.out;
      faults : sink.faults l.fn.out ≤ sink.faults l.out;
    }
