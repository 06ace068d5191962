use Rattle.bp_run.proofs.EndLemmas.{reports_named}
use Rattle.bp_run.proofs.commands.reported.Goals as goal

pub returns : goal.returns
returns g c = reports_named _ _ _ _ _ _ c.hotel_files-hotel.ensures c.text.ensures c.answer.ensures
