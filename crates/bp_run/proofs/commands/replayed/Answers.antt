use Rattle.bp_run.proofs.EndLemmas.{brings_named}
use Rattle.bp_run.proofs.commands.replayed.Goals as goal

pub returns : goal.returns
returns g c = brings_named _ _ _ _ _ _ c.hotel_files-hotel.ensures c.text.ensures c.replay.ensures
