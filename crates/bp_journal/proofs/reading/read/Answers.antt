use Rattle.std.proofs.Common.{subst}
use Rattle.std.proofs.lemmas.Result.{err_from_is_err_and}
use Rattle.bp_text.specs.Lines.{Given}
use Rattle.bp_journal.specs.Read.{IsNoted}
use Rattle.bp_journal.proofs.ReadingLemmas.{whole_journal, trailed_journal}
use Rattle.bp_journal.proofs.reading.read.Goals as goal

pub returns-in_err-at_end : goal.returns-in_err-at_end
returns-in_err-at_end c =
    let p = err_from_is_err_and c.from_residual-in_err-at_end.result c.from_residual-in_err-at_end.ensures.1 in
    let P : Given → Type 0 = λ s. IsNoted s c.read_lines.new.lines c.read_lines.new.journal in
    rw (p.1, p.2) (trailed_journal c.args.bytes.now c.read_lines.new.lines c.read_lines.new.journal _ (subst P c.new-lines.ensures c.in_ok-read_lines.ensures)
    c.in_err-at_end.ensures.0 c.in_err-at_end.ensures.1)

pub returns : goal.returns
returns c =
    let P : Given → Type 0 = λ s. IsNoted s c.read_lines.new.lines c.read_lines.new.journal in
    whole_journal c.args.bytes.now c.read_lines.new.lines c.read_lines.new.journal (subst P c.new-lines.ensures c.in_ok-read_lines.ensures)
    c.in_ok-at_end.ensures
