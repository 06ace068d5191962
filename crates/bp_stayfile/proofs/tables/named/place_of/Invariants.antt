use Rattle.std.proofs.Common.{◌≡◌, ◌<◌, ℕ, false}
use Rattle.std.specs.Str.{bytes_eq}
use Rattle.csv.specs.Records.{fields_of}
use Rattle.bp_stayfile.specs.Tables.{field_at}
use Rattle.bp_stayfile.proofs.tables.named.place_of.Given as goal

-- no field before this place has the name
abbrev pub invariant-loop-place : goal.invariant-loop-place
invariant-loop-place l =
    (k : ℕ) → k < l.place → bytes_eq (field_at (fields_of l.header) k) l.name ≡ false
