use Rattle.std.proofs.Common.{◌≡◌, drop}
use Rattle.std.specs.Str.{IsUtf8}
use Rattle.bp_stayfile.specs.Fields.{without_front}
use Rattle.bp_stayfile.proofs.tables.fields.without_front.Given as goal

-- only spaces stand before this place
abbrev pub invariant-loop-place : goal.invariant-loop-place
invariant-loop-place l = record {
  rest : without_front l.text ≡ without_front (drop l.place l.text);
  text : IsUtf8 (drop l.place l.text);
}
