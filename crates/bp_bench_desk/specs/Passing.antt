-- What a bench knows of a pass between two calls.
use Rattle.std.specs.Prelude.{◌≡◌}
use Rattle.atomic_table.specs.Seated.{TableId}
use Rattle.bp_types.specs.House.{Inn}
use Rattle.bp_desk.specs.Passes.{PassState}

-- it is a pass of this desk, whose house this is
pub record IsPassOf (desk : TableId) (house : Inn) (pass : PassState) : Type 0 where
  pub desk_is : pass.desk ≡ desk
  pub house_is : pass.house ≡ house
