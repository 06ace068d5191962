use Rattle.bp_sheets.specs.Lengths.{IsLeastAmong}
use Rattle.bp_sheets.proofs.lengths.least_length.Given as goal

abbrev pub invariant-loop-stay : goal.invariant-loop-stay
invariant-loop-stay l = IsLeastAmong l.instance l.board.certificate.prices l.stay l.arrival l.least
