use Rattle.std.proofs.Common.{◌≡◌, ℕ, List, [], ◌∷◌, ◌++◌}
use Rattle.std.specs.Prelude.{codes}
use Rattle.bp_text.specs.Lines.{line_of, text_of}
use Rattle.bp_text.proofs.DraftLemmas.{first_of_three, second_of_three, all_three, lines_in_three}
use Rattle.bp_core.specs.Lines.{History}
use Rattle.bp_journal.specs.Journals.{lines_from, journal_text}
use Rattle.bp_journal.proofs.writing.draft_journal.Goals as goal

-- the text in three parts: the first line, the entries, the last line
abbrev first_text : List ℕ
first_text = text_of (line_of (codes "journal 2") [] ∷ [])

abbrev last_text : List ℕ
last_text = text_of (line_of (codes "end") [] ∷ [])

journal_in_three : (H : History) → journal_text H ≡ (first_text ++ text_of (lines_from 0 H)) ++ last_text
journal_in_three H = lines_in_three (line_of (codes "journal 2") [] ∷ []) (lines_from 0 H) (line_of (codes "end") [] ∷ [])

pub returns-in_err-push_line-clause-writes : goal.returns-in_err-push_line-clause-writes
returns-in_err-push_line-clause-writes g c =
    let H = c.args.book.now.history in
    first_of_three _ _ c.args.draft.now _ first_text (text_of (lines_from 0 H)) last_text _ _ (journal_in_three H)
    c.from_residual.ensures.0 c.in_err-push_line.ensures.writes

pub returns-in_err-draft_history-clause-writes : goal.returns-in_err-draft_history-clause-writes
returns-in_err-draft_history-clause-writes g c =
    let H = c.args.book.now.history in
    second_of_three _ _ _ c.args.draft.now c.push_line.new.self _ first_text (text_of (lines_from 0 H)) last_text _ _ (journal_in_three H)
    c.from_residual-in_err-draft_history.ensures.0 c.in_ok-push_line.ensures.writes c.in_err-draft_history.ensures.writes

pub returns-clause-writes : goal.returns-clause-writes
returns-clause-writes g c =
    let H = c.args.book.now.history in
    all_three _ _ _ _ c.args.draft.now c.push_line.new.self c.draft_history.new.draft _ first_text (text_of (lines_from 0 H)) last_text _ _ (journal_in_three H)
    c.in_ok-push_line.ensures.writes c.in_ok-draft_history.ensures.writes c.push_line-2.ensures.writes
