use Rattle.std.proofs.Common.{[], length, get_or, ap, arith}
use Rattle.bp_types.specs.House.{Inn}
use Rattle.bp_report.specs.Tables.{night_line}
use Rattle.bp_report.proofs.RowLemmas.{row_drafted, row_refused}
use Rattle.bp_report.proofs.nights.draft_lines.Goals as goal

pub returns-in_err-draft_night-clause-writes : goal.returns-in_err-draft_night-clause-writes
returns-in_err-draft_night-clause-writes g c =
    row_refused _ _ _ c.args.draft.now c.loop-night.draft _ (λ n. night_line c.args.book.now.house c.args.book.now.history (get_or c.args.dates.now n []) n)
    c.loop-night.night (length c.args.book.now.house.rooms) _
    (omega (arith, c.nights-night-end.ensures.value, ap (λ (h : Inn). length h.rooms) c.house.ensures))
    c.loop-night.invariant.drafted c.in_err-draft_night.ensures.writes c.from_residual.ensures.0

pub loop-night-preserved : goal.loop-night-preserved
loop-night-preserved g c =
    let so_far = c.loop-night.invariant in
    record {
      drafted = row_drafted c.args.draft.now c.loop-night.draft c.draft_night.new.draft
          (λ n. night_line c.args.book.now.house c.args.book.now.history (get_or c.args.dates.now n []) n)
          c.loop-night.night so_far.drafted c.in_ok-draft_night.ensures.writes;
      steady = λ s. c.in_ok-draft_night.ensures.steady (so_far.steady s);
      faults = omega (arith, so_far.faults, c.in_ok-draft_night.ensures.faults);
    }
