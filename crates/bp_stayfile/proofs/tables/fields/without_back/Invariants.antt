use Rattle.std.proofs.Common.{◌≡◌, ◌-◌, take, length, reverse}
use Rattle.std.specs.Str.{IsUtf8}
use Rattle.bp_stayfile.specs.Fields.{without_front}
use Rattle.bp_stayfile.proofs.tables.fields.without_back.Given as goal

-- only spaces stand after so many
abbrev pub invariant-loop-spaces : goal.invariant-loop-spaces
invariant-loop-spaces l = record {
  rest : without_front (reverse l.text) ≡ without_front (reverse (take (length l.text - l.spaces) l.text));
  text : IsUtf8 (take (length l.text - l.spaces) l.text);
}
