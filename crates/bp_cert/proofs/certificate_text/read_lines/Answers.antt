use Rattle.std.proofs.lemmas.Result.{err_from_is_err_and}
use Rattle.bp_cert.specs.Texts.{all_certificate_lines, IsSpeakable}
use Rattle.bp_text.proofs.StageLemmas.{refused_at, no_lines, one_more_line, more_lines}
use Rattle.bp_cert.proofs.ClaimLemmas.{stage_first, stage_end, refused_claim}
use Rattle.bp_cert.proofs.certificate_text.read_lines.Goals as goal

pub returns-in_err-word_line : goal.returns-in_err-word_line
returns-in_err-word_line c =
    let p = err_from_is_err_and c.from_residual.result c.from_residual.ensures.1 in
    rw (p.1, p.2) (refused_at all_certificate_lines IsSpeakable _ _ _ _ _ _ _ _ stage_first (no_lines c.args.lines.now) c.in_err-word_line.ensures)

pub returns-in_err-certificate : goal.returns-in_err-certificate
returns-in_err-certificate c =
    let p = err_from_is_err_and c.from_residual-in_err-certificate.result c.from_residual-in_err-certificate.ensures.1 in
    let first = one_more_line _ _ _ _ _ (no_lines c.args.lines.now) c.in_ok-word_line.ensures.2 in
    rw (p.1, p.2) (refused_claim _ _ _ _ first c.in_err-certificate.ensures.read)

pub returns-in_err-word_line-2 : goal.returns-in_err-word_line-2
returns-in_err-word_line-2 c =
    let p = err_from_is_err_and c.from_residual-in_err-word_line-2.result c.from_residual-in_err-word_line-2.ensures.1 in
    let first = one_more_line _ _ _ _ _ (no_lines c.args.lines.now) c.in_ok-word_line.ensures.2 in
    let spells = c.in_ok-certificate.ensures.read in
    rw (p.1, p.2) (refused_at all_certificate_lines IsSpeakable _ _ _ _ _ _ _ _ (stage_end c.in_ok-certificate.certificate spells.within)
    (more_lines _ _ _ _ _ first spells.gives) c.in_err-word_line-2.ensures)
