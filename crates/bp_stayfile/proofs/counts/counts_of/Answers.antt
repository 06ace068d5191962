use Rattle.std.proofs.Common.{ap, ◌∙◌}
use Rattle.std.proofs.lemmas.Result.{err_from_is_err_and}
use Rattle.bp_hotelfile.specs.Steps.{◌>>=◌}
use Rattle.bp_stayfile.specs.Reading.{table_read}
use Rattle.bp_stayfile.specs.Counts.{count_rule}
use Rattle.bp_stayfile.proofs.ReadLemmas.{refused_after-table, IfRefused-weaker}
use Rattle.bp_stayfile.proofs.counts.counts_of.Goals as goal

pub returns-in_err-put_counts-clause-refused : goal.returns-in_err-put_counts-clause-refused
returns-in_err-put_counts-clause-refused c =
    let p = err_from_is_err_and c.from_residual-in_err-put_counts.result c.from_residual-in_err-put_counts.ensures.1 in
    let rule = count_rule c.args.codes.now in
    rw (p.1, p.2)
    (IfRefused-weaker c.in_err-put_counts.field-0.0 _ _
    (λ r after. ap (λ t. t >>= table_read rule) c.in_ok-header.ensures.read.table ∙ refused_after-table rule c.in_ok-header.header.behind after.0 r after.1)
    c.in_err-put_counts.ensures.refused)
