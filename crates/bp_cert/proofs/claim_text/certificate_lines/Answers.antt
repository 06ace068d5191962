use Rattle.std.proofs.Common.{List, ℕ, arith}
use Rattle.std.proofs.lemmas.Result.{err_from_is_err_and}
use Rattle.bp_cert.specs.Texts.{claim_lines, IsSpeakable}
use Rattle.bp_text.proofs.StageLemmas.{refused_at, no_lines, one_more_line}
use Rattle.bp_cert.proofs.ClaimLemmas.{stage_value, stage_sell, stage_prices, speakable}
use Rattle.bp_cert.proofs.claim_text.certificate_lines.Goals as goal

pub returns-in_err-value-clause-read : goal.returns-in_err-value-clause-read
returns-in_err-value-clause-read c =
    let p = err_from_is_err_and c.from_residual.result c.from_residual.ensures.1 in
    rw (p.1, p.2) (refused_at claim_lines IsSpeakable _ _ _ _ _ _ _ _ stage_value (no_lines c.args.lines.now) c.in_err-value.ensures)

pub returns-in_err-open_line-clause-read : goal.returns-in_err-open_line-clause-read
returns-in_err-open_line-clause-read c =
    let p = err_from_is_err_and c.from_residual-in_err-open_line.result c.from_residual-in_err-open_line.ensures.1 in
    let first = one_more_line _ _ _ _ _ (no_lines c.args.lines.now) c.in_ok-value.ensures.2 in
    rw (p.1, p.2) (refused_at claim_lines IsSpeakable _ _ _ _ _ _ _ _ (stage_sell c.in_ok-value.value (c.in_ok-value.ensures.1 0 0 (omega arith)))
    first c.in_err-open_line.ensures)

pub returns-in_err-open_line-2-clause-read : goal.returns-in_err-open_line-2-clause-read
returns-in_err-open_line-2-clause-read c =
    let p = err_from_is_err_and c.from_residual-in_err-open_line-2.result c.from_residual-in_err-open_line-2.ensures.1 in
    let first = one_more_line _ _ _ _ _ (no_lines c.args.lines.now) c.in_ok-value.ensures.2 in
    let sell : List ℕ = c.open_line.new.into.items in
    let second = one_more_line _ _ _ _ _ first c.in_ok-open_line.ensures.2 in
    rw (p.1, p.2) (refused_at claim_lines IsSpeakable _ _ _ _ _ _ _ _
    (stage_prices c.in_ok-value.value sell (c.in_ok-value.ensures.1 0 0 (omega arith)) c.in_ok-open_line.ensures.1) second c.in_err-open_line-2.ensures)

pub returns-clause-read : goal.returns-clause-read
returns-clause-read c =
    let first = one_more_line _ _ _ _ _ (no_lines c.args.lines.now) c.in_ok-value.ensures.2 in
    let second = one_more_line _ _ _ _ _ first c.in_ok-open_line.ensures.2 in
    let third = one_more_line _ _ _ _ _ second c.in_ok-open_line-2.ensures.2 in
    record { within = speakable _ _ _ (c.in_ok-value.ensures.1 0 0 (omega arith)) c.in_ok-open_line.ensures.1 c.in_ok-open_line-2.ensures.1; gives = third }
