use Rattle.std.proofs.Common.{◌++◌, ◌∷◌, [], length}
use Rattle.bp_text.specs.Lines.{text_of}
use Rattle.bp_report.specs.Tables.{night_header, night_lines}
use Rattle.bp_text.proofs.DraftLemmas.{Drafts-append, Drafts-longer}
use Rattle.bp_report.proofs.nights.draft_nights.Goals as goal

pub returns-in_err-push-clause-writes : goal.returns-in_err-push-clause-writes
returns-in_err-push-clause-writes g c =
    Drafts-longer _ _ c.args.draft.now _ (night_header ++ 10 ∷ [])
    (text_of (night_lines c.args.dates.now c.args.book.now.house c.args.book.now.history (length c.args.book.now.house.rooms)))
    _ c.from_residual.ensures.0 c.in_err-push.ensures.writes

pub returns-clause-writes : goal.returns-clause-writes
returns-clause-writes g c =
    Drafts-append _ _ _ c.args.draft.now c.push.new.self _ (night_header ++ 10 ∷ [])
    (text_of (night_lines c.args.dates.now c.args.book.now.house c.args.book.now.history (length c.args.book.now.house.rooms)))
    _ c.in_ok-push.ensures.writes c.draft_lines.ensures.writes
