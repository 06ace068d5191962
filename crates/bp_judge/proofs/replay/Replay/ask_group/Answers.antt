use Rattle.std.proofs.Common.{sym, subst, Some, None}
use Rattle.std.proofs.lemmas.Bool.{both_ways}
use Rattle.bp_types.specs.declared.command.Command.TheVariants.{Group}
use Rattle.bp_core.specs.declared.call.Answer.{Answer}
use Rattle.bp_core.specs.Acting.{Diary}
use Rattle.bp_core.specs.Replying.{IsSaid, NeedsQuote}
use Rattle.bp_judge.specs.Replays.{IsAsked}
use Rattle.bp_judge.proofs.Asking.{asked_quoted, unquoted}
use Rattle.bp_judge.proofs.Along.{answered_replay, quoted_replay}
use Rattle.bp_judge.proofs.Quoting.{group_skips, group_wants}
use Rattle.bp_judge.proofs.replay.Replay.ask_group.Goals as goal
use Rattle.bp_judge.proofs.replay.Replay.ask_group.Goals.{in-Unquoted, in_default}

pub returns-then-not-matches-clause-replay : goal.returns-then-not-matches-clause-replay
returns-then-not-matches-clause-replay g c = λ reply e.
    answered_replay c.args.self.now c.act-answer.new.self c.args.caller (Group c.args.span c.args.rooms c.args.amount)
    None c.act-answer.result c.requires.replay c.act-answer.ensures.answered c.act-answer.ensures.legal
    (group_skips c.args.self.now.book.house c.args.self.now.book.history c.args.span c.args.rooms c.args.amount)

pub quote-requires-clause-goes : goal.quote-requires-clause-goes
quote-requires-clause-goes g c =
    (answered_replay c.args.self.now c.act-answer.new.self c.args.caller (Group c.args.span c.args.rooms c.args.amount)
    None c.act-answer.result c.requires.replay c.act-answer.ensures.answered c.act-answer.ensures.legal
    (group_skips c.args.self.now.book.house c.args.self.now.book.history c.args.span c.args.rooms c.args.amount)).goes

pub returns-clause-asked : goal.returns-clause-asked
returns-clause-asked g c =
    let command = Group c.args.span c.args.rooms c.args.amount in
    let s = c.answers_say.ensures c.args.self.now.book c.act-answer.new.self c.args.caller command None c.act-answer.result c.act-answer.ensures.answered in
    let q = c.in_ok-quote.ensures in
    elim c.match-matches.branch [
      | in-Unquoted w ↦
          let u = unquoted c.args.self.now.book c.act-answer.new.self c.args.caller command c.act-answer.result s w.in-Unquoted.is in
          let t = c.answers_say.ensures c.act-answer.new.self c.act.new.self c.args.caller command (Some c.in_ok-quote.quote)
          c.act.result c.act.ensures.answered in
          let P : Diary → Type 0 = λ d. IsAsked d c.act.new.self c.args.caller command c.act.result in
          subst P u.0 (asked_quoted c.act-answer.new.self c.act.new.self c.args.caller command c.in_ok-quote.quote c.act.result q.newest t)
      | in_default w ↦ absurd (both_ways c.match-matches.matches w.matches-is c.if-not-matches.false)
    ]

pub returns-clause-replay : goal.returns-clause-replay
returns-clause-replay g c = λ reply e.
    let command = Group c.args.span c.args.rooms c.args.amount in
    let s = c.answers_say.ensures c.args.self.now.book c.act-answer.new.self c.args.caller command None c.act-answer.result c.act-answer.ensures.answered in
    let first = answered_replay c.args.self.now c.act-answer.new.self c.args.caller command None c.act-answer.result c.requires.replay
    c.act-answer.ensures.answered c.act-answer.ensures.legal
    (group_skips c.args.self.now.book.house c.args.self.now.book.history c.args.span c.args.rooms c.args.amount) in
    let q = c.in_ok-quote.ensures in
    elim c.match-matches.branch [
      | in-Unquoted w ↦
          let u = unquoted c.args.self.now.book c.act-answer.new.self c.args.caller command c.act-answer.result s w.in-Unquoted.is in
          let N : Diary → Type 0 = λ d. NeedsQuote d command in
          let needs = group_wants c.act-answer.new.self c.args.span c.args.rooms c.args.amount (subst N (sym u.0) u.1) in
          let t = c.answers_say.ensures c.act-answer.new.self c.act.new.self c.args.caller command (Some c.in_ok-quote.quote)
          c.act.result c.act.ensures.answered in
          let P : Answer → Type 0 = λ a. IsSaid c.act-answer.new.self c.act.new.self c.args.caller command (Some c.in_ok-quote.quote) a in
          quoted_replay (record { book = c.act-answer.new.self; trail = c.args.self.now.trail })
          c.act.new.self c.quote.new.self c.args.caller command reply first q.goes q.course q.at needs (subst P e t) c.act.ensures.legal
      | in_default w ↦ absurd (both_ways c.match-matches.matches w.matches-is c.if-not-matches.false)
    ]
