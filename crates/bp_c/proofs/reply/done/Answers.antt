use Rattle.std.proofs.Common.{ap, refl, Some}
use Rattle.bp_c.proofs.Held.{holds}
use Rattle.bp_c.proofs.Outcomes.{given}
use Rattle.bp_c.proofs.reply.done.Goals as goal

pub returns : goal.returns
returns c = λ words asks.
    given words _ _ _ _ _ (ap Some c.new-out.ensures.written) refl c.requires.steady (c.new-out.ensures.steady c.new.ensures.items)
    (holds c.tasks_are_unique.ensures words _ _ asks c.requires.there) c.run_task-status.ensures.known (c.run_task-status.ensures.serves words asks)
