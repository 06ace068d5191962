-- Entries and certificates as the lines of a history.
use Rattle.std.specs.Prelude.{ℕ, Bool, if◌then◌else◌, List, [], ◌∷◌, drop, count_by, slice_get, None, is_some}
use Rattle.bp_types.specs.Claim.{Claim}
use Rattle.bp_core.specs.declared.line.Entry.{Entry}
use Rattle.bp_core.specs.declared.line.Line.{Line}
use Rattle.bp_core.specs.Lines.{History, published_position}

-- an entry that publishes
abbrev pub publishes : Entry → Bool
publishes e = is_some (published_position e.act)

-- the entry, with the first of the certificates if it publishes
abbrev pub line_with : Entry → List Claim → Line
line_with e cs = record { entry = e; certificate = if publishes e then slice_get cs 0 else None }

-- the certificates behind the one that an entry publishes
abbrev pub certificates_after : Entry → List Claim → List Claim
certificates_after e cs = if publishes e then drop 1 cs else cs

-- the entries, each Publish with the next certificate
abbrev pub lines_of : List Entry → List Claim → History
lines_of [] cs = []
lines_of (e ∷ es) cs = line_with e cs ∷ lines_of es (certificates_after e cs)

-- how many of the entries publish
abbrev pub publications : List Entry → ℕ
publications es = count_by publishes es
