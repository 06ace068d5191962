use Rattle.std.proofs.Common.{◌≡◌, ◌++◌, take}
use Rattle.bp_text.specs.Lines.{text_of}
use Rattle.bp_sheets.specs.Sheets.{night_lines}
use Rattle.bp_sheets.proofs.paper.push_nights.Given as goal

abbrev pub invariant-loop-night : goal.invariant-loop-night
invariant-loop-night l = l.text.items ≡ l.fn.text.items ++ text_of (night_lines 0 (take l.night l.bands))
