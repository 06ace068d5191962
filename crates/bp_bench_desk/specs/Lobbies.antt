-- What a bench knows of a desk beside its screen.
use Rattle.std.specs.Prelude.{◌≡◌, length}
use Rattle.atomic_table.specs.Seated.{TableId}
use Rattle.bp_types.specs.Program.{Program}
use Rattle.bp_types.specs.House.{Inn, opening}
use Rattle.bp_desk.specs.Passes.{PassState}
use Rattle.bp_show.specs.Screens.{Display}

-- the pass is of the desk and its house, and the screen has the house's nights
pub record IsLobby (desk : TableId) (house : Inn) (start : Program) (pass : PassState) (screen : Display) : Type 0 where
  pub at_desk : pass.desk ≡ desk
  pub of_house : pass.house ≡ house
  pub starts : start ≡ opening house
  pub nights : length house.rooms ≡ screen.nights
