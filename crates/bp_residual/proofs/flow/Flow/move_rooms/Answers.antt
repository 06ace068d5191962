use Rattle.bp_types.specs.declared.change.Change.TheVariants.{Rooms}
use Rattle.bp_residual.proofs.Ends.{ends_after}
use Rattle.bp_residual.proofs.Changed.{moved_rooms_keep_priced}
use Rattle.bp_residual.proofs.flow.Flow.move_rooms.Goals as goal

pub invariant_of-self : goal.invariant_of-self
invariant_of-self c = (
  moved_rooms_keep_priced _ _ c.args.span c.args.up c.args.units c.self.invariant.0 c.apply.ensures.limits c.apply.ensures.changed,
  ends_after _ _ _ (Rooms c.args.span c.args.up c.args.units) c.apply.ensures.changed c.self.invariant.1,
)
