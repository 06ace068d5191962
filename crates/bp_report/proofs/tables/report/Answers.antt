use Rattle.bp_edges.proofs.Grows.{AppendedPrefix-empty}
use Rattle.bp_text.specs.Lines.{text_of}
use Rattle.bp_report.specs.Tables.{report_lines}
use Rattle.bp_report.proofs.ReportLemmas.{is_report}
use Rattle.bp_report.proofs.tables.report.Goals as goal

pub returns-in-Err-clause-writes : goal.returns-in-Err-clause-writes
returns-in-Err-clause-writes g c =
    let text = text_of (report_lines c.dates_of-dates.result c.args.codes.now c.args.book.now.house c.args.book.now.history) in
    let is = is_report c.args.hotel.now c.args.codes.now c.args.book.now.house c.args.book.now.history c.dates_of-dates.result c.requires.nights
    c.dates_of-dates.ensures in
    (text, is, AppendedPrefix-empty _ text)

pub returns-clause-writes : goal.returns-clause-writes
returns-clause-writes g c =
    let text = text_of (report_lines c.dates_of-dates.result c.args.codes.now c.args.book.now.house c.args.book.now.history) in
    let is = is_report c.args.hotel.now c.args.codes.now c.args.book.now.house c.args.book.now.history c.dates_of-dates.result c.requires.nights
    c.dates_of-dates.ensures in
    (text, is, c.write_tables.ensures.writes)
