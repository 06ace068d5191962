use Rattle.std.proofs.Common.{[]}
use Rattle.std.proofs.lemmas.Result.{err_from_is_err_and}
use Rattle.bp_text.proofs.StageLemmas.{no_lines, refused_here}
use Rattle.bp_journal.specs.Journals.{noted_lines}
use Rattle.bp_journal.specs.Limits.{IsNotedWithin}
use Rattle.bp_journal.specs.Found.{IsVersionLine, IsAnyLine}
use Rattle.bp_journal.proofs.PlaceLemmas.{version_place}
use Rattle.bp_journal.proofs.reading.read_lines.Goals as goal

pub returns-in_err-version : goal.returns-in_err-version
returns-in_err-version c =
    let p = err_from_is_err_and c.from_residual.result c.from_residual.ensures.1 in
    rw (p.1, p.2) (refused_here noted_lines IsNotedWithin [] IsVersionLine IsAnyLine c.args.lines.now c.args.lines.now _ _ version_place
    (no_lines c.args.lines.now) c.in_err-version.ensures)
