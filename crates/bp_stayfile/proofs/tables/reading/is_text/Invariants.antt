use Rattle.std.proofs.Common.{◌≡◌, drop}
use Rattle.csv.specs.Records.{fields_of}
use Rattle.bp_stayfile.specs.Tables.{is_text}
use Rattle.bp_stayfile.proofs.tables.reading.is_text.Given as goal

-- the fields before this place are UTF-8
abbrev pub invariant-loop-place : goal.invariant-loop-place
invariant-loop-place l = is_text (fields_of l.raw) ≡ is_text (drop l.place (fields_of l.raw))
