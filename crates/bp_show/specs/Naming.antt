-- The rule of what readers take.
use Rattle.std.specs.Prelude.{◌≡◌, ℕ, false, List, [], ◌∷◌, Option, Some, None}
use mathlib.Core.Option.{some}
use lib.ListN.{get_elem?}
use Rattle.atomic_table.specs.Seated.{TableId}
use Rattle.bp_show.specs.declared.face.Face.{Face}
use Rattle.bp_show.specs.declared.name.Name.{Name}

-- the seat that rests in it knows of the try that showed this vector
pub record IsFace (x : Face) : Type 0 where
  pub claim : x.gift.view.claim ≡ x.shown ∷ []
  pub stamp : x.gift.view.stamp ≡ x.stamp
  pub leads : x.gift.view.leads ≡ false

-- and who knows a table knows its table
pub record Agrees (x : Face) (views : List (Option Name)) : Type 0 where
  pub face : IsFace x
  pub each : (seat : ℕ) (n : Name) → get_elem? views seat ≡ some (Some n) → n.table ≡ x.gift.table_id

-- of no table
abbrev pub unnamed : Option Name
unnamed = None

-- of this table
abbrev pub named : TableId → Option Name
named t = Some (record { table = t })

-- who has shown something knows its table afterwards
abbrev pub Named : Option Name → Face → Face → Option Name → Type 0
Named v x y w = w ≡ named y.gift.table_id

-- who looks learns nothing new, and finds a face whose table is the one that it knows, if it knows one
abbrev pub Saw : Option Name → Face → Face → Option Name → Type 0
Saw v x y w = (w ≡ v) × IsFace y × ((n : Name) → v ≡ Some n → n.table ≡ y.gift.table_id)

-- who is told knows what the other one knew
abbrev pub informed : Option Name → Option Name → Option Name
informed v w = w
