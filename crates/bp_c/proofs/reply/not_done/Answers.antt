use Rattle.std.proofs.Common.{ap, refl, Some}
use Rattle.bp_c.proofs.Held.{holds_none}
use Rattle.bp_c.proofs.Outcomes.{given}
use Rattle.bp_c.proofs.reply.not_done.Goals as goal

pub returns : goal.returns
returns c = λ words none.
    given words _ _ _ _ _ (ap Some c.new-out.ensures.written) refl c.requires (c.new-out.ensures.steady c.new.ensures.items)
    (holds_none words _ none) c.run_no_task-status.ensures.known (c.run_no_task-status.ensures.serves words none)
