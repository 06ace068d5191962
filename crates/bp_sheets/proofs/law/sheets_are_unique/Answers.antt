use Rattle.bp_sheets.proofs.Unique.{sheets_are_unique}
use Rattle.bp_sheets.proofs.law.sheets_are_unique.Goals as goal

pub returns : goal.returns
returns c = sheets_are_unique c.optimum_is_unique.ensures c.least_prices_are_unique.ensures c.displacement_is_unique.ensures
