use Rattle.std.proofs.Common.{◌≡◌, ℕ, List, [], ◌∷◌, ◌++◌}
use Rattle.std.specs.Prelude.{codes}
use Rattle.bp_text.specs.Lines.{line_of, text_of}
use Rattle.bp_text.proofs.DraftLemmas.{first_of_three, second_of_three, all_three, lines_in_three}
use Rattle.bp_types.specs.Claim.{Claim}
use Rattle.bp_cert.specs.Texts.{claim_lines, certificate_text}
use Rattle.bp_cert.proofs.certificate_text.draft_certificate.Goals as goal

-- the text in three parts: the first line, the claim, the last line
abbrev first_text : List ℕ
first_text = text_of (line_of (codes "certificate 1") [] ∷ [])

abbrev last_text : List ℕ
last_text = text_of (line_of (codes "end") [] ∷ [])

certificate_in_three : (c : Claim) → certificate_text c ≡ (first_text ++ text_of (claim_lines c)) ++ last_text
certificate_in_three c = lines_in_three (line_of (codes "certificate 1") [] ∷ []) (claim_lines c) (line_of (codes "end") [] ∷ [])

pub returns-in_err-push_line-clause-writes : goal.returns-in_err-push_line-clause-writes
returns-in_err-push_line-clause-writes g c =
    let certificate = c.args.certificate.now in
    first_of_three _ _ c.args.draft.now _ first_text (text_of (claim_lines certificate)) last_text _ _ (certificate_in_three certificate)
    c.from_residual.ensures.0 c.in_err-push_line.ensures.writes

pub returns-in_err-draft_claim-clause-writes : goal.returns-in_err-draft_claim-clause-writes
returns-in_err-draft_claim-clause-writes g c =
    let certificate = c.args.certificate.now in
    second_of_three _ _ _ c.args.draft.now c.push_line.new.self _ first_text (text_of (claim_lines certificate)) last_text _ _
    (certificate_in_three certificate)
    c.from_residual-in_err-draft_claim.ensures.0 c.in_ok-push_line.ensures.writes c.in_err-draft_claim.ensures.writes

pub returns-clause-writes : goal.returns-clause-writes
returns-clause-writes g c =
    let certificate = c.args.certificate.now in
    all_three _ _ _ _ c.args.draft.now c.push_line.new.self c.draft_claim.new.draft _ first_text (text_of (claim_lines certificate)) last_text _ _
    (certificate_in_three certificate)
    c.in_ok-push_line.ensures.writes c.in_ok-draft_claim.ensures.writes c.push_line-2.ensures.writes
