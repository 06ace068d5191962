use Rattle.bp_journal.proofs.EntryLineLemmas.{no_reply, one_too_many, all_told}
use Rattle.bp_journal.proofs.entry_line.told.Goals as goal

pub returns-in_default-reply : goal.returns-in_default-reply
returns-in_default-reply c =
    let caller = c.in-Some.ensures in
    let act = c.in-Some-act.ensures in
    no_reply c.args.version c.args.words.now c.number.new.self c.act.new.words caller.0 act.0 c.in-Some-act.act caller.1 act.2 act.3.word
    c.in_default-reply.ensures

pub returns-in-None : goal.returns-in-None
returns-in-None c =
    let caller = c.in-Some.ensures in
    let act = c.in-Some-act.ensures in
    let reply = c.in-Some-reply.ensures in
    let all = all_told c.args.version c.args.words.now c.number.new.self c.act.new.words c.reply.new.words caller.0 act.0 c.in-Some-act.act reply.0 caller.1
    act.1 act.2 act.3.word reply.1 reply.2 c.in-None.ensures.0 in
    (record { caller = caller.0; act = act.0; reply = reply.0 }, all.0, all.1, record { caller_is = caller.2; act_is = act.3; reply_is = reply.3 })

pub returns-in-Some-next : goal.returns-in-Some-next
returns-in-Some-next c =
    let caller = c.in-Some.ensures in
    let act = c.in-Some-act.ensures in
    let reply = c.in-Some-reply.ensures in
    one_too_many c.args.version c.args.words.now c.number.new.self c.act.new.words c.reply.new.words caller.0 act.0 c.in-Some-act.act reply.0
    c.in-Some-next.field-0.now c.next.new.self
    caller.1 act.2 act.3.word reply.1 reply.2 c.in-Some-next.ensures
