-- The commands of all tasks, and what their answers say.
use Rattle.std.specs.Prelude.{ℕ, List}
use Rattle.bp_cert.specs.Texts.{certificate_text}
use Rattle.bp_cli.specs.Tasks.{Task, check, solve, group, judge, desk, replay, report, demo, scenarios, sheet, portfolio}
use Rattle.bp_run.specs.Command.{Command}
use Rattle.bp_run.specs.Check.{check_command, verdict_line, verdict_status}
use Rattle.bp_run.specs.Solve.{solve_command}
use Rattle.bp_run.specs.Sheet.{sheet_command}
use Rattle.bp_run.specs.Report.{report_command, report_said, report_status}
use Rattle.bp_run.specs.Demo.{demo_command}
use Rattle.bp_run.specs.Judge.{ruling_command, judge_plan, replay_plan, hotel_names, ruling_line, ruling_status}
use Rattle.bp_run.specs.Desk.{desk_command, run_said, run_status}
use Rattle.bp_run.specs.Scenarios.{scenarios_command, outcomes_said}
use Rattle.bp_run.specs.Portfolio.{portfolio_command, runs_said, runs_status}
use Rattle.bp_run.specs.Group.{group_command, group_said, group_status, span_of}
use Rattle.bp_run.specs.declared.status.Status.{Status}
use Rattle.bp_run.specs.declared.status.Status.TheVariants.{Done}
use Rattle.bp_run.specs.declared.end.Answer.{Answer}
use Rattle.bp_run.specs.declared.end.Answer.TheVariants.{Checked, Solved, Grouped, Judged, Ran, Sheeted, Reported, Demonstrated, Foreseen, RanAll}

-- the command of a task
abbrev pub command_of : Task → Command
command_of (check p c) = check_command p c
command_of (solve p) = solve_command p
command_of (group p from to rooms) = group_command p (span_of from to) rooms
command_of (judge p journal) = ruling_command (judge_plan p journal)
command_of (desk names workers) = desk_command (hotel_names names) names.last workers
command_of (replay names) = ruling_command (replay_plan (hotel_names names) names.last)
command_of (report names) = report_command (hotel_names names) names.last
command_of (demo seed nights rooms stays) = demo_command seed nights rooms stays
command_of (scenarios p changes) = scenarios_command p changes
command_of (sheet p) = sheet_command p
command_of (portfolio list workers) = portfolio_command list workers

-- what an answer says
abbrev pub answer_said : Answer → List ℕ
answer_said (Checked verdict) = verdict_line verdict
answer_said (Solved claim) = certificate_text claim
answer_said (Grouped answer) = group_said answer
answer_said (Judged ruling) = ruling_line ruling
answer_said (Ran ran) = run_said ran
answer_said (Sheeted text) = text
answer_said (Reported answer) = report_said answer
answer_said (Demonstrated text) = text
answer_said (Foreseen outcomes) = outcomes_said outcomes
answer_said (RanAll runs) = runs_said runs

-- the status of an answer
abbrev pub answer_status : Answer → Status
answer_status (Checked verdict) = verdict_status verdict
answer_status (Solved claim) = Done
answer_status (Grouped answer) = group_status answer
answer_status (Judged ruling) = ruling_status ruling
answer_status (Ran ran) = run_status ran
answer_status (Sheeted text) = Done
answer_status (Reported answer) = report_status answer
answer_status (Demonstrated text) = Done
answer_status (Foreseen outcomes) = Done
answer_status (RanAll runs) = runs_status runs

-- an answer that one thread gives
abbrev pub IsPlainAnswer : Answer → Type 0
IsPlainAnswer (Checked verdict) = Unit {0}
IsPlainAnswer (Solved claim) = Unit {0}
IsPlainAnswer (Grouped answer) = Unit {0}
IsPlainAnswer (Judged ruling) = Unit {0}
IsPlainAnswer (Ran ran) = ⊥
IsPlainAnswer (Sheeted text) = Unit {0}
IsPlainAnswer (Reported answer) = Unit {0}
IsPlainAnswer (Demonstrated text) = Unit {0}
IsPlainAnswer (Foreseen outcomes) = Unit {0}
IsPlainAnswer (RanAll runs) = ⊥
