use Rattle.std.proofs.Common.{◌≤◌, ◌++◌, [], get_or}
use Rattle.bp_text.specs.Drafts.{IsDrafted}
use Rattle.bp_report.specs.Tables.{night_line}
use Rattle.bp_report.proofs.RowLemmas.{rows_text}
use Rattle.bp_report.proofs.nights.draft_lines.Given as goal

-- the lines before this one are behind the draft
abbrev pub invariant-loop-night : goal.invariant-loop-night
invariant-loop-night g l =
    let sink = g.K.Sink in
    record {
      drafted : IsDrafted (sink.written l.fn.out) (sink.written l.out) l.draft
          (l.fn.draft ++ rows_text (λ n. night_line l.book.house l.book.history (get_or l.dates n []) n) l.night);
      steady : sink.steady l.fn.out → sink.steady l.out;
      faults : sink.faults l.fn.out ≤ sink.faults l.out;
    }
