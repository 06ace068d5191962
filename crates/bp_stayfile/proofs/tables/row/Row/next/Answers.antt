use Rattle.std.proofs.Common.{◌≡◌, ◌∙◌, ◌+◌, ◌∷◌, sym, ap, true, length}
use Rattle.std.proofs.lemmas.List.{length-map}
use Rattle.csv.specs.Records.{fields_of}
use Rattle.bp_stayfile.specs.Records.{records_left}
use Rattle.bp_stayfile.specs.Tables.{TableRow, is_taken, field_at, row_at, rows_behind}
use Rattle.bp_stayfile.proofs.RowLemmas.{taken_tells, behind_taken}
use Rattle.bp_stayfile.proofs.tables.row.Row.next.Goals as goal

pub returns-clause-next : goal.returns-clause-next
returns-clause-next c =
    let next = rw c.if-not-branch.false at c.in_ok-next_record.ensures in
    let read = ap records_left (sym c.deref_mut.ensures.value) ∙ next.1 in
    let line = c.self.inside.line in
    let places = c.self.inside.places.items in
    let width = length (fields_of c.self.inside.raw) in
    let fields = fields_of c.next_record.new.raw in
    let rest = records_left c.next_record.new.reader in
    let taken : is_taken width fields ≡ true = ap (λ n. is_taken n fields) (sym c.len-width.ensures) ∙ sym c.is_taken.ensures ∙ c.if-not-is_taken.false in
    let same = sym (taken_tells width fields taken).0 in
    let (rows, stop) = behind_taken line places width fields rest taken in
    record {
      line = ap (λ (r : TableRow). r.line + 1) c.self.view_is;
      rows = sym (ap (λ (r : TableRow). r.behind.rows) c.self.view_is)
          ∙ ap (λ rs. (rows_behind line places width rs).rows) read
          ∙ rows
          ∙ ap (λ n. row_at places fields ∷ (rows_behind (line + 1) places n rest).rows) same;
      stop = sym (ap (λ (r : TableRow). r.behind.stop) c.self.view_is)
          ∙ ap (λ rs. (rows_behind line places width rs).stop) read
          ∙ stop
          ∙ ap (λ n. (rows_behind (line + 1) places n rest).stop) same;
      columns = ap (λ (r : TableRow). r.behind.columns) c.self.view_is;
      one_each = length-map places (field_at fields) ∙ ap (λ (r : TableRow). r.behind.columns) c.self.view_is;
    }
