use Rattle.std.proofs.Common.{sym, inl, inr}
use Rattle.std.specs.Str.{is_utf8}
use Rattle.std.proofs.lemmas.Bool.{cases_Bool}
use Rattle.std.proofs.lemmas.Str.{is_utf8-from_IsUtf8, IsUtf8-from_is_utf8}
use Rattle.csv.specs.Records.{fields_of}
use Rattle.csv.proofs.RecordFacts.{field-get, field-there}
use Rattle.bp_stayfile.proofs.tables.reading.text_at.Goals as goal

pub unreachable-requires : goal.unreachable-requires
unreachable-requires c =
    field-there (fields_of c.args.raw.now) c.args.place c.requires (sym c.in_default.ensures.value)

pub returns-in-Ok : goal.returns-in-Ok
returns-in-Ok c =
    let field = field-get (fields_of c.args.raw.now) c.args.place c.in-Some.field.now (sym c.in-Some.ensures.value) in
    rw field (is_utf8-from_IsUtf8 c.in-Some.field.now c.in-Ok.ensures.cases.1, c.in-Ok.ensures.cases.0)

pub returns-in-Err : goal.returns-in-Err
returns-in-Err c =
    let field = field-get (fields_of c.args.raw.now) c.args.place c.in-Some.field.now (sym c.in-Some.ensures.value) in
    rw field (elim (cases_Bool (is_utf8 c.in-Some.field.now)) [
      | inl text ↦ absurd (c.in-Err.ensures.cases.0 (IsUtf8-from_is_utf8 c.in-Some.field.now text))
      | inr none ↦ none
    ])
