-- An instance that is carried along a history.
use Rattle.std.specs.Prelude.{◌≡◌, ◌≤◌, length, vec_capacity}
use Rattle.bp_types.specs.House.{Inn}
use Rattle.bp_core.specs.Lines.{History}
use Rattle.bp_core.specs.Instance.{instance_at}
use Rattle.bp_desk.specs.declared.carried.Carried.{Carried}

-- it is the one at its position, which was seen, and the next changes have room
pub record IsCarried (house : Inn) (seen : History) (c : Carried) : Type 0 where
  pub within : c.position ≤ length seen
  pub is_there : c.instance ≡ instance_at house seen c.position
  pub room : 2 ≤ vec_capacity c.changes
