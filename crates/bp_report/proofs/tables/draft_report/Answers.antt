use Rattle.std.proofs.Common.{◌≡◌, ◌++◌, ◌∷◌, ◌∙◌, [], List, ℕ, Some, length, ap, sym, subst}
use Rattle.std.specs.Prelude.{codes, slice_get, unwrap_or}
use Rattle.std.specs.Option.{option_map}
use Rattle.bp_types.specs.Claim.{Claim}
use Rattle.bp_board.specs.Posted.{Posted}
use Rattle.bp_text.specs.Drafts.{Drafts}
use Rattle.bp_types.specs.House.{Inn}
use Rattle.bp_core.specs.Lines.{History, boards, last_number}
use Rattle.bp_text.specs.Lines.{line_of, text_of}
use Rattle.bp_text.proofs.DraftLemmas.{first_of_three, second_of_three, all_three, lines_in_three}
use Rattle.bp_report.specs.Tables.{night_header, night_lines, stay_header, stay_lines, last_value_of, report_lines}
use Rattle.bp_report.proofs.tables.draft_report.Goals as goal

-- the report in three parts: the nights, the stays, the value
abbrev nights_text : List (List ℕ) → Inn → History → List ℕ
nights_text dates h H = text_of (night_header ∷ night_lines dates h H (length h.rooms))

abbrev stays_text : List (List ℕ) → Inn → History → List ℕ
stays_text stay_codes h H = text_of (stay_header ∷ stay_lines stay_codes h H (length stay_codes))

abbrev value_text : History → List ℕ
value_text H = text_of (line_of (codes "value") (last_value_of H ∷ []) ∷ [])

report_in_three : (dates stay_codes : List (List ℕ)) (h : Inn) (H : History)
    → text_of (report_lines dates stay_codes h H) ≡ (nights_text dates h H ++ stays_text stay_codes h H) ++ value_text H
report_in_three dates stay_codes h H =
    lines_in_three (night_header ∷ night_lines dates h H (length h.rooms)) (stay_header ∷ stay_lines stay_codes h H (length stay_codes))
    (line_of (codes "value") (last_value_of H ∷ []) ∷ [])

-- the value of the last board is that of the last vector
value_is : (H : History) (board : Posted) (claim : Claim) → slice_get (boards H) (last_number H) ≡ Some board → claim ≡ board.certificate →
    claim.value ≡ last_value_of H
value_is H board claim last same =
    ap (λ (c : Claim). c.value) same ∙ sym (ap (λ o. unwrap_or (option_map (λ (b : Posted). b.certificate.value) o) 0) last)

pub returns-in_err-draft_nights-clause-writes : goal.returns-in_err-draft_nights-clause-writes
returns-in_err-draft_nights-clause-writes g c =
    let h = c.args.book.now.house in
    let H = c.args.book.now.history in
    first_of_three _ _ c.args.draft.now _ (nights_text c.args.dates.now h H) (stays_text c.args.codes.now h H) (value_text H) _ _
    (report_in_three c.args.dates.now c.args.codes.now h H)
    c.from_residual.ensures.0 c.in_err-draft_nights.ensures.writes

pub returns-in_err-draft_stays-clause-writes : goal.returns-in_err-draft_stays-clause-writes
returns-in_err-draft_stays-clause-writes g c =
    let h = c.args.book.now.house in
    let H = c.args.book.now.history in
    second_of_three _ _ _ c.args.draft.now c.draft_nights.new.draft _ (nights_text c.args.dates.now h H) (stays_text c.args.codes.now h H) (value_text H) _ _
    (report_in_three c.args.dates.now c.args.codes.now h H)
    c.from_residual-in_err-draft_stays.ensures.0 c.in_ok-draft_nights.ensures.writes c.in_err-draft_stays.ensures.writes

pub returns-clause-writes : goal.returns-clause-writes
returns-clause-writes g c =
    let h = c.args.book.now.house in
    let H = c.args.book.now.history in
    let value = ap (λ (k : Claim). k.value) c.behind-last_board.view_is ∙ value_is H _ _ c.last_board.ensures.last c.certificate.ensures.value in
    let P : ℕ → Type 0 = λ v. Drafts (g.K.Sink.written c.draft_stays.new.out) (g.K.Sink.written c.push_wide_line.new.out)
    c.draft_stays.new.draft c.push_wide_line.new.self (text_of (line_of (codes "value") (v ∷ []) ∷ [])) c.push_wide_line.result in
    all_three _ _ _ _ c.args.draft.now c.draft_nights.new.draft c.draft_stays.new.draft c.push_wide_line.new.self (nights_text c.args.dates.now h H)
    (stays_text c.args.codes.now h H) (value_text H) _ _
    (report_in_three c.args.dates.now c.args.codes.now h H) c.in_ok-draft_nights.ensures.writes c.in_ok-draft_stays.ensures.writes
    (subst P value c.push_wide_line.ensures.writes)
