use Rattle.std.proofs.Common.{arith}
use Rattle.bp_run.proofs.EndLemmas.{serves, plain_known}
use Rattle.bp_run.proofs.CompleteLemmas.{complete, holds_all}
use Rattle.bp_run.proofs.SoundCommands.{AreTextsReadOneWay, sound}
use Rattle.bp_run.proofs.top.run_task.Goals as goal

pub returns-in-Ok-clause-serves : goal.returns-in-Ok-clause-serves
returns-in-Ok-clause-serves g c = λ words asks.
    let law : AreTextsReadOneWay =
    record {
      problems = c.problems_have_one_spelling.ensures.reading;
      certificates = c.certificates_have_one_spelling.ensures.reading;
      journals =
          c.journals_have_one_spelling.ensures.reading;
      scenarios = c.scenarios_have_one_spelling.ensures.reading;
      lists =
          c.lists_have_one_spelling.ensures.reading;
    } in
    let each = sound law in
    let has = c.in-Ok.ensures.end words asks in
    serves words _ _ c.in-Ok.end has (λ steady holds. c.in-Ok.ensures.unfailing steady words asks holds)
    (λ steady all. complete each words _ c.in-Ok.end all has (c.in-Ok.ensures.unfailing steady words asks (holds_all each words _ all)))
    c.finish.result _ c.number.ensures c.finish.ensures

pub returns-in-Ok-clause-known : goal.returns-in-Ok-clause-known
returns-in-Ok-clause-known g c = let number = c.number.ensures in
    let small = plain_known _ c.in-Ok.end c.finish.result c.in-Ok.ensures.plain c.finish.ensures in omega arith
