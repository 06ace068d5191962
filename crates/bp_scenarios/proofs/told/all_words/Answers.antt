use Rattle.bp_scenarios.proofs.ChangeLemmas.{no_words, one_too_many, all_told}
use Rattle.bp_scenarios.proofs.told.all_words.Goals as goal

pub returns-in_default-behind : goal.returns-in_default-behind
returns-in_default-behind c = no_words c.args.words.now c.next.new.self c.in-Some.word.now c.in-Some.ensures c.in_default-behind.ensures

pub returns-in-None : goal.returns-in-None
returns-in-None c =
    let t = c.in-Some-behind.ensures in
    (t.0, all_told c.args.words.now c.next.new.self c.behind.new.words c.in-Some.word.now t.0 c.in-Some.ensures t.1 t.2 c.in-None.ensures.0, t.3)

pub returns-in-Some-next : goal.returns-in-Some-next
returns-in-Some-next c =
    let t = c.in-Some-behind.ensures in
    one_too_many c.args.words.now c.next.new.self c.behind.new.words _ c.in-Some.word.now _ t.0 c.in-Some.ensures t.1 t.2 c.in-Some-next.ensures
