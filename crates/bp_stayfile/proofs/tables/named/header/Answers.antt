use Rattle.std.proofs.Common.{ap, ◌∙◌, sym, length, arith}
use Rattle.csv.specs.Records.{fields_of}
use Rattle.bp_stayfile.specs.Records.{records_left}
use Rattle.bp_stayfile.proofs.RowLemmas.{places_fit}
use Rattle.bp_stayfile.proofs.tables.named.header.Goals as goal

pub invariant_of-result : goal.invariant_of-result
invariant_of-result c =
    let next = rw c.if-not-branch.false at c.in_ok-next_record.ensures in
    let read = ap records_left (sym c.deref_mut.ensures.value) ∙ next.1 in
    record {
      reading = next.0;
      text = c.in_ok-places.ensures.text;
      wide = rw c.in_ok-places.ensures.places (places_fit (fields_of c.next_record.new.raw) c.args.columns.now c.in_ok-places.ensures.all);
      few = omega (arith, ap length read, ap (λ r. length (records_left r)) c.in-Ok.ensures.ok, c.reader_of.ensures.few);
    }
