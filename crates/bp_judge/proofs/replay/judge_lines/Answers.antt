use Rattle.std.proofs.Common.{◌∙◌, subst, Option}
use Rattle.bp_judge.specs.declared.judgement.Cause.{Cause}
use Rattle.bp_judge.specs.Replays.{HasRead}
use Rattle.bp_judge.proofs.Ends.{found, none_here, one_more}
use Rattle.bp_judge.proofs.Counting.{counts_stop, counts_on}
use Rattle.bp_judge.proofs.replay.judge_lines.Goals as goal

pub returns-in_err-cause-clause-unsearched : goal.returns-in_err-cause-clause-unsearched
returns-in_err-cause-clause-unsearched g c =
    let here = c.loop-line.invariant in
    λ none. c.read.ensures.unsearched
    (none_here c.loop-line.replay.book.history c.loop-line.lines c.next-in-loop-line.new.self c.args.lines c.in-Some-next.line here.read
    c.in-Some-next.ensures none) ∙ here.unsearched none

pub returns-in_err-cause-clause-counted : goal.returns-in_err-cause-clause-counted
returns-in_err-cause-clause-counted g c =
    let here = c.loop-line.invariant in
    counts_stop c.args.house c.loop-line.replay.book c.args.lines c.loop-line.lines c.next-in-loop-line.new.self c.in-Some-next.line c.args.steps.now
    c.loop-line.steps c.read.new.steps here.house here.read c.in-Some-next.ensures here.counted c.read.ensures.counted

pub returns-in-Some-2-clause-judged : goal.returns-in-Some-2-clause-judged
returns-in-Some-2-clause-judged g c =
    let here = c.loop-line.invariant in
    let P : Option Cause → Type 0 = λ o. HasRead c.loop-line.replay c.read.new.self c.in-Some-next.line o in
    found c.args.house c.loop-line.replay.book c.args.lines c.loop-line.lines c.next-in-loop-line.new.self c.in-Some-next.line c.in-Some-2.cause
    c.length-place.result here.house here.is.legal here.read c.in-Some-next.ensures c.length-place.ensures.value
    (subst P c.in-Some-2.is c.in_ok-cause.ensures.read)

pub returns-in-Some-2-clause-unsearched : goal.returns-in-Some-2-clause-unsearched
returns-in-Some-2-clause-unsearched g c =
    let here = c.loop-line.invariant in
    λ none. c.read.ensures.unsearched
    (none_here c.loop-line.replay.book.history c.loop-line.lines c.next-in-loop-line.new.self c.args.lines c.in-Some-next.line here.read
    c.in-Some-next.ensures none) ∙ here.unsearched none

pub returns-in-Some-2-clause-counted : goal.returns-in-Some-2-clause-counted
returns-in-Some-2-clause-counted g c =
    let here = c.loop-line.invariant in
    counts_stop c.args.house c.loop-line.replay.book c.args.lines c.loop-line.lines c.next-in-loop-line.new.self c.in-Some-next.line c.args.steps.now
    c.loop-line.steps c.read.new.steps here.house here.read c.in-Some-next.ensures here.counted c.read.ensures.counted

pub loop-line-preserved : goal.loop-line-preserved
loop-line-preserved g c =
    let here = c.loop-line.invariant in
    let P : Option Cause → Type 0 = λ o. HasRead c.loop-line.replay c.read.new.self c.in-Some-next.line o in
    let more = one_more c.loop-line.replay c.read.new.self c.args.house c.args.lines c.loop-line.lines c.next-in-loop-line.new.self c.in-Some-next.line
    here.house here.read c.in-Some-next.ensures (subst P c.in_default-2.is c.in_ok-cause.ensures.read) in
    record {
      is = more.0;
      house = more.1;
      read = more.2;
      unsearched = λ none. c.read.ensures.unsearched
          (none_here c.loop-line.replay.book.history c.loop-line.lines c.next-in-loop-line.new.self c.args.lines c.in-Some-next.line here.read
          c.in-Some-next.ensures none) ∙ here.unsearched none;
      counted = counts_on c.args.house c.loop-line.replay c.read.new.self c.args.lines c.loop-line.lines c.next-in-loop-line.new.self c.in-Some-next.line
          c.args.steps.now c.loop-line.steps c.read.new.steps here.house here.read c.in-Some-next.ensures
          (subst P c.in_default-2.is c.in_ok-cause.ensures.read).1 here.counted c.read.ensures.counted;
    }
