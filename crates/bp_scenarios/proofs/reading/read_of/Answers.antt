use Rattle.std.proofs.Common.{subst}
use Rattle.std.proofs.lemmas.Result.{err_from_is_err_and}
use Rattle.bp_text.specs.Lines.{Given}
use Rattle.bp_text.specs.Reading.{Spells}
use Rattle.bp_text.proofs.WholeLemmas.{whole_text, trailed_text, refused_text}
use Rattle.bp_scenarios.specs.Refused.{IsChangeOf}
use Rattle.bp_scenarios.specs.Texts.{scenario_lines, AreWithin}
use Rattle.bp_scenarios.proofs.reading.read_of.Goals as goal

pub returns-in_err-at_end : goal.returns-in_err-at_end
returns-in_err-at_end c =
    let W = AreWithin (IsChangeOf c.args.size.nights c.args.size.stays) in
    let p = err_from_is_err_and c.from_residual-in_err-at_end.result c.from_residual-in_err-at_end.ensures.1 in
    let P : Given → Type 0 = λ s. Spells scenario_lines W s c.read_lines.new.lines c.in_ok-lists.lists.items in
    rw (p.1, p.2) (trailed_text scenario_lines W c.args.bytes.now c.read_lines.new.lines c.in_ok-lists.lists.items _
    (subst P c.new-lines.ensures c.in_ok-lists.ensures) c.in_err-at_end.ensures.0 c.in_err-at_end.ensures.1)

pub returns : goal.returns
returns c =
    let W = AreWithin (IsChangeOf c.args.size.nights c.args.size.stays) in
    let P : Given → Type 0 = λ s. Spells scenario_lines W s c.read_lines.new.lines c.in_ok-lists.lists.items in
    whole_text scenario_lines W c.args.bytes.now c.read_lines.new.lines c.in_ok-lists.lists.items (subst P c.new-lines.ensures c.in_ok-lists.ensures)
    c.in_ok-at_end.ensures
