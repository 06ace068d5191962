use Rattle.std.proofs.Common.{subst}
use Rattle.std.proofs.lemmas.Result.{err_from_is_err_and}
use Rattle.bp_text.specs.Lines.{Given}
use Rattle.bp_text.specs.Reading.{Spells}
use Rattle.bp_cert.specs.Texts.{all_certificate_lines, IsSpeakable}
use Rattle.bp_text.proofs.WholeLemmas.{trailed_text}
use Rattle.bp_cert.proofs.certificate_text.read_certificate.Goals as goal

pub returns-in_err-at_end : goal.returns-in_err-at_end
returns-in_err-at_end c =
    let p = err_from_is_err_and c.from_residual-in_err-at_end.result c.from_residual-in_err-at_end.ensures.1 in
    let P : Given → Type 0 = λ g. Spells all_certificate_lines IsSpeakable g c.read_lines.new.lines c.in_ok-certificate.certificate in
    rw (p.1, p.2) (trailed_text all_certificate_lines IsSpeakable c.args.bytes.now c.read_lines.new.lines c.in_ok-certificate.certificate _
    (subst P c.new-lines.ensures c.in_ok-certificate.ensures) c.in_err-at_end.ensures.0 c.in_err-at_end.ensures.1)
