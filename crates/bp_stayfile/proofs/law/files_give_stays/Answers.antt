use Rattle.bp_stayfile.proofs.StayLemmas.{stays_file-tells}
use Rattle.bp_stayfile.proofs.law.files_give_stays.Goals as goal

pub returns : goal.returns
returns c = stays_file-tells
