use Rattle.bp_report.proofs.Unique.{reports_are_unique}
use Rattle.bp_report.proofs.law.reports_are_unique.Goals as goal

pub returns : goal.returns
returns c = reports_are_unique c.days_have_one_text.ensures
