use Rattle.std.proofs.Common.{◌≤◌, ◌++◌, [], length, get_or}
use Rattle.bp_text.specs.Drafts.{IsDrafted}
use Rattle.bp_core.specs.Instance.{forecast_of}
use Rattle.bp_report.specs.Tallies.{tally_of}
use Rattle.bp_report.specs.Tables.{stay_line}
use Rattle.bp_report.proofs.RowLemmas.{rows_text}
use Rattle.bp_report.proofs.stays.draft_lines.Given as goal

-- the lines before this one are behind the draft
abbrev pub invariant-loop-stay : goal.invariant-loop-stay
invariant-loop-stay g l =
    let sink = g.K.Sink in
    record {
      drafted : IsDrafted (sink.written l.fn.out) (sink.written l.out) l.draft
          (l.fn.draft ++ rows_text
          (λ j. stay_line (get_or l.codes j []) (tally_of l.book.history (length l.book.history) j) (forecast_of l.book.house l.book.history j)) l.stay);
      steady : sink.steady l.fn.out → sink.steady l.out;
      faults : sink.faults l.fn.out ≤ sink.faults l.out;
    }
