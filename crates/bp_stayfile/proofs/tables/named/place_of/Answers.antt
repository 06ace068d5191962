use Rattle.std.proofs.Common.{◌∙◌, sym, [], length, arith}
use Rattle.std.specs.Str.{bytes_eq}
use Rattle.std.proofs.lemmas.List.Sums.{position_or_len_is}
use Rattle.csv.specs.Records.{fields_of}
use Rattle.bp_stayfile.specs.Columns.{column_text}
use Rattle.bp_stayfile.specs.Fields.{stripped}
use Rattle.bp_stayfile.proofs.tables.named.place_of.Goals as goal

pub returns-then-eq : goal.returns-then-eq
returns-then-eq c =
    let here = rw (c.field_at.ensures, c.text-name.ensures) at (sym c.eq.ensures ∙ c.if-eq.true) in
    sym (position_or_len_is (λ name. bytes_eq (stripped name) (column_text c.args.column)) (fields_of c.args.header.now) c.loop-place.place []
    (omega (arith, c.len-place-end.ensures))
    (λ k before. rw (← c.text-name.ensures) (c.loop-place.invariant k before)) (λ _. here))

pub returns : goal.returns
returns c =
    c.len.ensures
    ∙ sym (position_or_len_is (λ name. bytes_eq (stripped name) (column_text c.args.column)) (fields_of c.args.header.now)
    (length (fields_of c.args.header.now)) [] (omega arith)
    (λ k before. rw (← c.text-name.ensures) (c.loop-place.invariant k (omega (arith, c.len-place-end.ensures)))) (λ past. absurd (omega arith)))
