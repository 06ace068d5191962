-- What contracts see of a screen and of a view.
use Rattle.std.specs.Prelude.{ℕ, List, Option}
use Rattle.atomic_table.specs.Seated.{TableId}
use Rattle.atomic_table.specs.declared.shared.Seat.{Seat}
use Rattle.left_right.specs.declared.part.Part.{Part}
use Rattle.left_right.specs.declared.board.Doing.{Doing}
use Rattle.left_right.specs.Sides.{view}
use Rattle.bp_show.specs.Vectors.{Vector}
use Rattle.bp_show.specs.declared.face.Face.{Face}
use Rattle.bp_show.specs.declared.name.Name.{Name}

-- Which screen it is or is of, for how many nights its vectors have prices, and the vectors that it has shown or seen,
-- oldest first.
pub record Display : Type 0 where
  pub screen : TableId
  pub nights : ℕ
  pub seen : List Vector

-- the table that a seat of `left_right` knows
abbrev pub name_at : Seat (Option (Part Face)) (Doing Face (Option Name)) → Option Name
name_at s = view s
