use Rattle.std.proofs.Common.{◌++◌, ◌∷◌, [], length}
use Rattle.bp_text.specs.Lines.{text_of}
use Rattle.bp_report.specs.Tables.{stay_header, stay_lines}
use Rattle.bp_text.proofs.DraftLemmas.{Drafts-append, Drafts-longer}
use Rattle.bp_report.proofs.stays.draft_stays.Goals as goal

pub returns-in_err-push-clause-writes : goal.returns-in_err-push-clause-writes
returns-in_err-push-clause-writes g c =
    Drafts-longer _ _ c.args.draft.now _ (stay_header ++ 10 ∷ [])
    (text_of (stay_lines c.args.codes.now c.args.book.now.house c.args.book.now.history (length c.args.codes.now)))
    _ c.from_residual.ensures.0 c.in_err-push.ensures.writes

pub returns-clause-writes : goal.returns-clause-writes
returns-clause-writes g c =
    Drafts-append _ _ _ c.args.draft.now c.push.new.self _ (stay_header ++ 10 ∷ [])
    (text_of (stay_lines c.args.codes.now c.args.book.now.house c.args.book.now.history (length c.args.codes.now)))
    _ c.in_ok-push.ensures.writes c.draft_lines.ensures.writes
