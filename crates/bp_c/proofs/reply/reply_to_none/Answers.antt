use Rattle.bp_c.proofs.Delivered.{replies, replies_nothing}
use Rattle.bp_c.proofs.reply.reply_to_none.Goals as goal

pub returns-in-Ok : goal.returns-in-Ok
returns-in-Ok c = λ words none.
    let d = c.deliver.ensures in
    replies words _ _ _ _ _ _ _ _ _ c.in-Ok.ensures.files (c.not_done.ensures words none) d.no_memory d.counted d.filled d.short

pub returns-in-Err : goal.returns-in-Err
returns-in-Err c = λ words none. replies_nothing words _ _ _
