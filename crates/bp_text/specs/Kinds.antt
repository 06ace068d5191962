-- A kind of text as its stages: which rows may stand behind the rows so far, and the line of each.
use Rattle.std.specs.Prelude.{List, [], ◌∷◌, ◌++◌}
use Rattle.bp_text.specs.Lines.{Line}

-- each row is so behind those before it
abbrev pub EachRow : {R : Type 0} → (List R → R → Type 0) → List R → List R → Type 0
EachRow P front [] = Unit {0}
EachRow P front (r ∷ rows) = P front r × EachRow P (front ++ r ∷ []) rows

-- the lines of the rows
abbrev pub row_lines : {R : Type 0} → (List R → R → Line) → List R → List R → List Line
row_lines line_at front [] = []
row_lines line_at front (r ∷ rows) = line_at front r ∷ row_lines line_at (front ++ r ∷ []) rows
