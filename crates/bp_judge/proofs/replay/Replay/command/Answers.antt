use Rattle.std.proofs.Common.{◌++◌, ◌∷◌, [], ◌∙◌, ap, sym, subst}
use Rattle.bp_core.specs.declared.call.Answer.{Answer}
use Rattle.bp_core.specs.declared.line.Act.{Act}
use Rattle.bp_core.specs.Acting.{plain_line}
use Rattle.bp_core.specs.Legal.{is_allowed, is_fresh}
use Rattle.bp_judge.specs.Replays.{IsAsked}
use Rattle.bp_judge.proofs.Firsts.{first_limit, first_behind}
use Rattle.bp_judge.proofs.Asking.{full_disallows, free_allows, behind_is_stale}
use Rattle.bp_judge.proofs.Reading.{read_plain}
use Rattle.bp_judge.proofs.replay.Replay.command.Goals as goal

pub returns-in-Logged-clause-read : goal.returns-in-Logged-clause-read
returns-in-Logged-clause-read g c =
    let asked = c.in_ok-reply.ensures in
    let P : Answer → Type 0 = λ a. IsAsked c.args.self.now.book c.ask.new.self.book c.args.line.now.entry.caller c.args.command a in
    let adds = subst P c.in-Logged.is asked.asked in
    let h = c.args.self.now.book.house in
    let H = c.args.self.now.book.history in
    read_plain c.last_line_is_legal.ensures c.one_reply.ensures c.args.self.now c.ask.new.self c.args.line.now c.in-Logged.reply c.compared.result
    (asked.replay c.in-Logged.reply c.in-Logged.is)
    (adds.line ∙ ap (λ (a : Act). record { house = h; history = H ++ plain_line c.args.line.now.entry.caller a c.in-Logged.reply ∷ [] }) (sym c.requires.act))
    c.compared.ensures

pub returns-in-HistoryFull-clause-read : goal.returns-in-HistoryFull-clause-read
returns-in-HistoryFull-clause-read g c =
    let b = c.args.self.now.book in
    let P : Answer → Type 0 = λ a. IsAsked b c.ask.new.self.book c.args.line.now.entry.caller c.args.command a in
    let said = subst P c.in-HistoryFull.is c.in_ok-reply.ensures.asked in
    first_limit b.house b.history c.args.line.now c.requires.replay.legal.some_line c.requires.caller c.requires.range
    (ap (is_allowed b.house b.history) c.requires.act ∙ full_disallows b c.args.command said)

pub returns-in-Behind-clause-read : goal.returns-in-Behind-clause-read
returns-in-Behind-clause-read g c =
    let b = c.args.self.now.book in
    let P : Answer → Type 0 = λ a. IsAsked b c.ask.new.self.book c.args.line.now.entry.caller c.args.command a in
    let said = subst P c.in-Behind.is c.in_ok-reply.ensures.asked in
    first_behind b.house b.history c.args.line.now c.requires.replay.legal.some_line c.requires.caller c.requires.range
    (ap (is_allowed b.house b.history) c.requires.act ∙ free_allows b c.args.command c.requires.replay.legal said.not_full)
    (ap (is_fresh b.house b.history) c.requires.act ∙ behind_is_stale b c.args.command _ _ said)
