use Rattle.std.proofs.Common.{subst}
use Rattle.bp_core.specs.Acting.{Diary}
use Rattle.bp_core.specs.Calls.{Continues}
use Rattle.bp_core.proofs.Growing.{answered_continues}
use Rattle.bp_core_tests.proofs.desk.Desk.act.Goals as goal

pub returns : goal.returns
returns c =
    let book = c.self.inside.book in
    let P : Diary → Type 0 = λ b. Continues b c.act.new.self in
    subst P c.self.view_is (answered_continues book c.act.new.self c.args.caller c.args.call c.act.result c.act.ensures.answered)
