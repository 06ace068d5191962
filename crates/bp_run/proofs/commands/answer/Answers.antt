use Rattle.std.proofs.Common.{refl, sym, subst}
use Rattle.std.proofs.lemmas.Result.{err_from_is_err_and}
use Rattle.bp_cli.specs.Asked.{asked}
use Rattle.bp_cli.specs.declared.task.Task.{Task as ReadTask}
use Rattle.bp_run.specs.Demo.{HasDemoNumbers}
use Rattle.bp_run.proofs.commands.answer.Goals as goal

pub returns-in_ok-answer-in-Check-clause-concludes : goal.returns-in_ok-answer-in-Check-clause-concludes
returns-in_ok-answer-in-Check-clause-concludes g c =
    rw (
      c.in-Check.is,
      sym c.text.ensures,
      sym c.text-in-Check.ensures,
    ) (record { own = c.in_ok-answer-in-Check.field-0; is = refl; answered = c.in_ok-answer-in-Check.ensures })

pub returns-in_ok-answer-in-Solve-clause-concludes : goal.returns-in_ok-answer-in-Solve-clause-concludes
returns-in_ok-answer-in-Solve-clause-concludes g c =
    rw (c.in-Solve.is, sym c.text-in-Solve.ensures) (record { own = c.in_ok-answer-in-Solve.field-0; is = refl; answered = c.in_ok-answer-in-Solve.ensures })

pub returns-in_ok-answer-in-Group-clause-concludes : goal.returns-in_ok-answer-in-Group-clause-concludes
returns-in_ok-answer-in-Group-clause-concludes g c =
    rw (c.in-Group.is, sym c.text-in-Group.ensures) (record { own = c.in_ok-answer-in-Group.field-0; is = refl; answered = c.in_ok-answer-in-Group.ensures })

pub returns-in_ok-answer-in-Judge-clause-concludes : goal.returns-in_ok-answer-in-Judge-clause-concludes
returns-in_ok-answer-in-Judge-clause-concludes g c =
    rw (
      c.in-Judge.is,
      sym c.text-in-Judge.ensures,
      sym c.text-in-Judge-2.ensures,
    ) (record { own = c.in_ok-answer-in-Judge.field-0; is = refl; answered = c.in_ok-answer-in-Judge.ensures })

pub returns-in_ok-replayed-in-Replay-clause-concludes : goal.returns-in_ok-replayed-in-Replay-clause-concludes
returns-in_ok-replayed-in-Replay-clause-concludes g c =
    rw c.in-Replay.is (record { own = c.in_ok-replayed-in-Replay.field-0; is = refl; answered = c.in_ok-replayed-in-Replay.ensures })

pub returns-in_err-replayed-in-Replay-clause-concludes : goal.returns-in_err-replayed-in-Replay-clause-concludes
returns-in_err-replayed-in-Replay-clause-concludes g c =
    let p = err_from_is_err_and c.from_residual-in_err-replayed-in-Replay.result c.from_residual-in_err-replayed-in-Replay.ensures.1 in
    rw (p.1, p.2, c.in-Replay.is) c.in_err-replayed-in-Replay.ensures

pub returns-in_ok-reported-in-Report-clause-concludes : goal.returns-in_ok-reported-in-Report-clause-concludes
returns-in_ok-reported-in-Report-clause-concludes g c =
    rw c.in-Report.is (record { own = c.in_ok-reported-in-Report.field-0; is = refl; answered = c.in_ok-reported-in-Report.ensures })

pub returns-in_err-reported-in-Report-clause-concludes : goal.returns-in_err-reported-in-Report-clause-concludes
returns-in_err-reported-in-Report-clause-concludes g c =
    let p = err_from_is_err_and c.from_residual-in_err-reported-in-Report.result c.from_residual-in_err-reported-in-Report.ensures.1 in
    rw (p.1, p.2, c.in-Report.is) c.in_err-reported-in-Report.ensures

pub returns-in_ok-answer-in-Sheet-clause-concludes : goal.returns-in_ok-answer-in-Sheet-clause-concludes
returns-in_ok-answer-in-Sheet-clause-concludes g c =
    rw (c.in-Sheet.is, sym c.text-in-Sheet.ensures) (record { own = c.in_ok-answer-in-Sheet.field-0; is = refl; answered = c.in_ok-answer-in-Sheet.ensures })

pub answer-requires-in-Demo : goal.answer-requires-in-Demo
answer-requires-in-Demo g c = let P : ReadTask → Type 0 = λ t. HasDemoNumbers (asked t) in subst P c.in-Demo.is c.requires.numbers

pub returns-in_ok-answer-in-Demo-clause-concludes : goal.returns-in_ok-answer-in-Demo-clause-concludes
returns-in_ok-answer-in-Demo-clause-concludes g c =
    rw c.in-Demo.is (record { own = c.in_ok-answer-in-Demo.field-0; is = refl; answered = c.in_ok-answer-in-Demo.ensures })

pub returns-in_ok-answer_alone-in-Scenarios-clause-concludes : goal.returns-in_ok-answer_alone-in-Scenarios-clause-concludes
returns-in_ok-answer_alone-in-Scenarios-clause-concludes g c =
    rw (c.in-Scenarios.is, sym c.text-in-Scenarios.ensures, sym c.text-in-Scenarios-2.ensures)
    (record { own = c.in_ok-answer_alone-in-Scenarios.field-0; is = refl; answered = c.in_ok-answer_alone-in-Scenarios.ensures })
