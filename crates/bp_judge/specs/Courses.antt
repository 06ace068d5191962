-- An instance that goes along a history.
use Rattle.std.specs.Prelude.{◌≡◌, ◌≤◌, length, vec_capacity}
use Rattle.bp_types.specs.House.{Inn}
use Rattle.bp_core.specs.Instance.{instance_at}
use Rattle.bp_core.specs.Lines.{History}
use Rattle.bp_judge.specs.declared.course.Course.{Course}

-- it has the instance at its position, and room for the changes of an entry
pub record IsCourse (h : Inn) (H : History) (c : Course) : Type 0 where
  pub within : c.position ≤ length H
  pub program : c.instance ≡ instance_at h H c.position
  pub room : 2 ≤ vec_capacity c.changes
