use Rattle.std.proofs.Common.{◌≡◌, drop}
use Rattle.csv.specs.Records.{fields_of}
use Rattle.bp_stayfile.specs.Tables.{lacking}
use Rattle.bp_stayfile.proofs.tables.named.lacking.Given as goal

-- the header has the columns before this one
abbrev pub invariant-loop-column : goal.invariant-loop-column
invariant-loop-column l =
    lacking (fields_of l.header) l.columns ≡ lacking (fields_of l.header) (drop l.column-index l.columns)
