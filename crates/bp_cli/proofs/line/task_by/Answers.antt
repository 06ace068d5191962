use Rattle.std.proofs.Common.{◌≡◌, ◌∷◌}
use Rattle.bp_cli.specs.Words.{texts}
use Rattle.bp_cli.specs.Asked.{IsReadOf}
use Rattle.bp_cli.specs.Forms.{command_of}
use Rattle.bp_cli.proofs.Lines.{read_answered}
use Rattle.bp_cli.proofs.line.task_by.Goals as goal
use Rattle.bp_cli.proofs.line.task_by.Goals.{in-Check, in-Solve, in-Group, in-Judge, in-Replay, in-Report, in-Demo, in-Scenarios, in-Sheet, in-Portfolio}

pub returns : goal.returns
returns c =
    let read : IsReadOf (command_of c.args.form ∷ texts c.args.words.now) c.match-form.task =
    elim c.match-form.branch [
      | in-Check w ↦ rw (w.in-Check.is, w.task-is) w.check_line-task.ensures
      | in-Solve w ↦ rw (w.in-Solve.is, w.task-is) w.solve_line-task.ensures
      | in-Group w ↦ rw (w.in-Group.is, w.task-is) w.group_line-task.ensures
      | in-Judge w ↦ rw (w.in-Judge.is, w.task-is) w.judge_line-task.ensures
      | in-Replay w ↦ rw (w.in-Replay.is, w.task-is) w.replay_line-task.ensures
      | in-Report w ↦ rw (w.in-Report.is, w.task-is) w.report_line-task.ensures
      | in-Demo w ↦ rw (w.in-Demo.is, w.task-is) w.demo_line-task.ensures
      | in-Scenarios w ↦ rw (w.in-Scenarios.is, w.task-is) w.scenarios_line-task.ensures
      | in-Sheet w ↦ rw (w.in-Sheet.is, w.task-is) w.sheet_line-task.ensures
      | in-Portfolio w ↦ rw (w.in-Portfolio.is, w.task-is) w.portfolio_line-task.ensures
    ] in
    rw c.ok_or.ensures.value (read_answered (command_of c.args.form ∷ texts c.args.words.now) c.match-form.task read)
