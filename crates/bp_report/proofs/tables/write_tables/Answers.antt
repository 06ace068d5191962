use Rattle.std.proofs.Common.{◌++◌, ℕ, List, Option, Ok, Err, Result, IsErr, subst}
use Rattle.bp_edges.specs.Writing.{AppendedPrefix, Writes}
use Rattle.bp_edges.proofs.Grows.{AppendedPrefix-empty}
use Rattle.bp_text.specs.Lines.{text_of}
use Rattle.bp_text.proofs.DraftLemmas.{all_new_written}
use Rattle.bp_report.specs.Tables.{report_lines}
use Rattle.bp_report.proofs.tables.write_tables.Goals as goal

-- where a call was refused a first part was written
writes_refused : {E : Type 0} (before now : Option (List ℕ)) (text : List ℕ) (result : Result (Unit {0}) E) → IsErr result → AppendedPrefix before now text →
    Writes before now text result
writes_refused before now text (Ok _) refused part = absurd (cc)
writes_refused before now text (Err e) refused part = part

pub returns-in_err-draft-clause-writes : goal.returns-in_err-draft-clause-writes
returns-in_err-draft-clause-writes g c =
    let text = text_of (report_lines c.args.dates.now c.args.codes.now c.args.book.now.house c.args.book.now.history) in
    writes_refused _ _ text c.from_residual.result c.from_residual.ensures.0 (AppendedPrefix-empty _ text)

pub returns-in_err-draft_report-clause-writes : goal.returns-in_err-draft_report-clause-writes
returns-in_err-draft_report-clause-writes g c =
    let text = text_of (report_lines c.args.dates.now c.args.codes.now c.args.book.now.house c.args.book.now.history) in
    let P : List ℕ → Type 0 = λ d. AppendedPrefix (g.K.Sink.written c.args.out.now) (g.K.Sink.written c.draft_report.new.out) (d ++ text) in
    writes_refused _ _ text c.from_residual-in_err-draft_report.result c.from_residual-in_err-draft_report.ensures.0
    (subst P c.in_ok-draft.ensures c.in_err-draft_report.ensures.writes)

pub returns-clause-writes : goal.returns-clause-writes
returns-clause-writes g c =
    let text = text_of (report_lines c.args.dates.now c.args.codes.now c.args.book.now.house c.args.book.now.history) in
    all_new_written _ _ _ c.in_ok-draft.draft c.draft_report.new.draft text c.hand_on.result c.in_ok-draft.ensures c.in_ok-draft_report.ensures.writes
    c.hand_on.ensures.writes
