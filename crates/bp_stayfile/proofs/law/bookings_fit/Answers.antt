use Rattle.bp_stayfile.proofs.FitLemmas.{bookings_file-tells}
use Rattle.bp_stayfile.proofs.law.bookings_fit.Goals as goal

pub returns : goal.returns
returns c = bookings_file-tells
