use Rattle.bp_c.proofs.Held.{held_as}
use Rattle.bp_c.proofs.Delivered.{replies, replies_nothing}
use Rattle.bp_c.proofs.reply.reply_to_two.Goals as goal

pub done-requires-clause-there : goal.done-requires-clause-there
done-requires-clause-there c = held_as _ _ _ c.in-Ok.ensures.files c.requires.there

pub returns-in-Ok : goal.returns-in-Ok
returns-in-Ok c = λ words asks.
    let d = c.deliver.ensures in
    replies words _ _ _ _ _ _ _ _ _ c.in-Ok.ensures.files (c.done.ensures words asks) d.no_memory d.counted d.filled d.short

pub returns-in-Err : goal.returns-in-Err
returns-in-Err c = λ words asks. replies_nothing words _ _ _
