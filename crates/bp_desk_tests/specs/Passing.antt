-- What the tests know of a pass between two calls.
use Rattle.std.specs.Prelude.{◌≡◌, ℕ, ◌*◌}
use Rattle.atomic_table.specs.Seated.{TableId}
use Rattle.bp_types.specs.declared.command.Quoted.{Quoted}
use Rattle.bp_types.specs.declared.stay.Span.{Span}
use Rattle.bp_types.specs.Displacement.{IsDisplacement}
use Rattle.bp_types.specs.House.{Inn, opening}
use Rattle.bp_types.specs.Program.{Program}
use Rattle.bp_desk.specs.Passes.{PassState}

-- it is a pass of this desk, whose house and opening instance these are
pub record IsPassOf (desk : TableId) (house : Inn) (start : Program) (pass : PassState) : Type 0 where
  pub desk_is : pass.desk ≡ desk
  pub house_is : pass.house ≡ house
  pub start_is : start ≡ opening house

-- a quote at position 0 for so many rooms on a span
pub record IsOpeningQuote (unit : ℕ) (start : Program) (span : Span) (rooms : ℕ) (q : Quoted) : Type 0 where
  pub position_is : q.position ≡ 0
  pub displacement_is : IsDisplacement start span (unit * rooms) q.displacement
