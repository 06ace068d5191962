use Rattle.std.proofs.Common.{inl}
use Rattle.csv.specs.Records.{fields_of}
use Rattle.bp_stayfile.proofs.CsvLemmas.{one_less, none_less}
use Rattle.bp_stayfile.proofs.tables.reading.next_record.Goals as goal

pub returns-in-Ok-true : goal.returns-in-Ok-true
returns-in-Ok-true c =
    let is = c.requires in
    let e = c.in-Ok-true.ensures in
    one_less c.args.reader.now c.read_byte_record.new.self (fields_of c.read_byte_record.new.row) is (inl (e.ready is.trim)) e.flexible
    (rw c.in-Ok-true.field-0-test at (e.reads is.trim is.ready))

pub returns-in-Ok-false : goal.returns-in-Ok-false
returns-in-Ok-false c =
    let is = c.requires in
    let e = c.in-Ok-false.ensures in
    none_less c.args.reader.now c.read_byte_record.new.self (fields_of c.read_byte_record.new.row) is
    (rw c.in-Ok-false.field-0-test at (e.reads is.trim is.ready))
