use Rattle.bp_judge.proofs.Reading.{read_unrefused}
use Rattle.bp_judge.proofs.replay.Replay.plain.Goals as goal

pub returns : goal.returns
returns c = read_unrefused c.last_line_is_legal.ensures c.one_reply.ensures c.args.self.now c.act.new.self c.args.line.now c.args.call c.in-Logged.reply
    c.act.result c.compared.result c.requires.replay c.requires.plain c.requires.act c.act.ensures.answered c.act.ensures.legal c.in-Logged.is
    c.compared.ensures
