use Rattle.std.proofs.Common.{[]}
use Rattle.std.proofs.lemmas.Result.{err_from_is_err_and}
use Rattle.bp_text.proofs.StageLemmas.{no_lines, refused_here}
use Rattle.bp_scenarios.specs.Refused.{IsChangeOf}
use Rattle.bp_scenarios.specs.Texts.{scenario_lines, AreWithin}
use Rattle.bp_scenarios.specs.Rows.{IsFirst, IsAnyLine}
use Rattle.bp_scenarios.proofs.PlaceLemmas.{first_place, read_all}
use Rattle.bp_scenarios.proofs.reading.read_lines.Goals as goal

pub returns-in_err-first_line : goal.returns-in_err-first_line
returns-in_err-first_line c =
    let W = IsChangeOf c.args.size.nights c.args.size.stays in
    let p = err_from_is_err_and c.from_residual.result c.from_residual.ensures.1 in
    rw (p.1, p.2) (refused_here scenario_lines (AreWithin W) [] IsFirst IsAnyLine c.args.lines.now c.args.lines.now _ _ (first_place W)
    (no_lines c.args.lines.now) c.in_err-first_line.ensures)

pub returns : goal.returns
returns c = read_all (IsChangeOf c.args.size.nights c.args.size.stays)
    c.args.lines.now c.first_line.new.lines c.read_rows.new.lines _ c.in_ok-first_line.ensures c.read_rows.ensures
