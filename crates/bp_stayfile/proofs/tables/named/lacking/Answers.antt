use Rattle.std.proofs.Common.{◌≡◌, ◌∙◌, ◌==◌, false, length, arith}
use Rattle.std.proofs.lemmas.Bool.Decides.{nat_tests}
use Rattle.csv.specs.Records.{fields_of}
use Rattle.bp_stayfile.specs.declared.column.Column.TheVariants as column
use Rattle.bp_stayfile.specs.Tables.{place_of}
use Rattle.bp_stayfile.proofs.RowLemmas.{find-more}
use Rattle.bp_stayfile.proofs.tables.named.lacking.Goals as goal

pub loop-column-preserved : goal.loop-column-preserved
loop-column-preserved c =
    c.loop-column.invariant
    ∙ find-more (λ column. place_of (fields_of c.args.header.now) column == length (fields_of c.args.header.now))
    c.args.columns.now c.loop-column.column-index column.Code c.loop-column-test.true
    (rw (← c.place_of.ensures, ← c.len.ensures) (let apart : (c.place_of.result == c.len.result) ≡ false = grind (arith, nat_tests) in apart))
