use Rattle.std.proofs.Common.{◌-◌, ◌≤◌}
use Rattle.bp_desk.specs.Carrying.{IsCarried}
use Rattle.bp_desk.specs.Submitting.{HasReadOn}
use Rattle.bp_desk.proofs.desk.Desk.carry_to.Given as goal

abbrev pub invariant-loop-carried : goal.invariant-loop-carried
invariant-loop-carried g l =
    IsCarried l.initial.pass.house l.initial.pass.seen l.carried × (l.carried.position ≤ l.until) × HasReadOn l.initial.pass l.pass

abbrev pub decreases-loop-carried : goal.decreases-loop-carried
decreases-loop-carried g l = l.until - l.carried.position
