use Rattle.std.proofs.Common.{None}
use Rattle.bp_judge.proofs.Asking.{asked_unless, needs_no_quote}
use Rattle.bp_judge.proofs.Along.{answered_replay}
use Rattle.bp_judge.proofs.Quoting.{command_skips}
use Rattle.bp_judge.proofs.replay.Replay.ask.Goals as goal

pub returns-in_default-clause-asked : goal.returns-in_default-clause-asked
returns-in_default-clause-asked g c =
    let said = c.answers_say.ensures c.args.self.now.book c.act.new.self c.args.caller c.args.command None c.act.result c.act.ensures.answered in
    asked_unless c.args.self.now.book c.act.new.self c.args.caller c.args.command c.act.result
    (needs_no_quote c.args.self.now.book c.act.new.self c.args.caller c.args.command c.act.result c.in_default.not-Group said) said

pub returns-in_default-clause-replay : goal.returns-in_default-clause-replay
returns-in_default-clause-replay g c = λ reply e.
    answered_replay c.args.self.now c.act.new.self c.args.caller c.args.command None c.act.result c.requires.replay c.act.ensures.answered c.act.ensures.legal
    (λ _. command_skips c.args.self.now.book.house c.args.self.now.book.history c.args.command c.in_default.not-Group)
