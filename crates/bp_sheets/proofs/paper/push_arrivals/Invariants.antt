use Rattle.std.proofs.Common.{◌≡◌, ◌++◌, take}
use Rattle.bp_text.specs.Lines.{text_of}
use Rattle.bp_sheets.specs.Sheets.{arrival_lines}
use Rattle.bp_sheets.proofs.paper.push_arrivals.Given as goal

abbrev pub invariant-loop-arrival : goal.invariant-loop-arrival
invariant-loop-arrival l = l.text.items ≡ l.fn.text.items ++ text_of (arrival_lines l.board.certificate.prices 0 (take l.arrival l.lengths))
