-- `report`: the tables of a hotel's journal, where it is legal.
use Rattle.std.specs.Prelude.{ℕ, List}
use Rattle.bp_core.specs.Lines.{History}
use Rattle.bp_core.specs.Legal.{IsLegal}
use Rattle.bp_judge.specs.Judging.{IsFirstIllegal}
use Rattle.bp_report.specs.Tables.{IsReport}
use Rattle.bp_cli.specs.Words.{Word}
use Rattle.bp_inputs.specs.Stages.{Plan, done, ask, followed_by}
use Rattle.bp_inputs.specs.JournalFiles.{journal_file}
use Rattle.bp_inputs.specs.HotelPlan.{HotelNames, hotel_plan}
use Rattle.bp_run.specs.Command.{Command}
use Rattle.bp_run.specs.Judge.{ruling_line}
use Rattle.bp_inputs.specs.declared.house.OpenHotel.{OpenHotel}
use Rattle.bp_run.specs.declared.status.Status.{Status}
use Rattle.bp_run.specs.declared.status.Status.TheVariants.{Done, Wrong}
use Rattle.bp_run.specs.declared.end.Answer.TheVariants.{Reported}
use Rattle.bp_run.specs.declared.commands.judge.Ruling.TheVariants as ruling
use Rattle.bp_run.specs.declared.commands.report.ReportAnswer.{ReportAnswer}
use Rattle.bp_run.specs.declared.commands.report.ReportAnswer.TheVariants.{Tables, Illegal}

-- a hotel as its files say it, and the lines that are to be the history of its desk
pub record Told : Type 0 where
  pub inn : OpenHotel
  pub lines : History

-- the lines are a legal history of the house, and the text is its report; or this place is the first that breaks a
-- rule, and this the first rule that it breaks
abbrev pub IsReportAnswer : Told → ReportAnswer → Type 0
IsReportAnswer g (Tables text) = IsLegal g.inn.house g.lines × IsReport g.inn.hotel g.inn.stays.codes g.inn.house g.lines text
IsReportAnswer g (Illegal place rule) = IsFirstIllegal g.inn.house g.lines place rule

-- a journal of a hotel
abbrev pub told_plan : Word → OpenHotel → Plan Told
told_plan journal inn = ask (journal_file journal) (λ H. done (record { inn = inn; lines = H }))

-- a hotel's four files, and a journal of their house
abbrev pub report_plan : HotelNames → Word → Plan Told
report_plan names journal = followed_by (hotel_plan names) (λ inn. told_plan journal inn)

-- the report of a journal; whatever its lines are, there is an answer
abbrev pub report_command : HotelNames → Word → Command
report_command names journal = record {
  Given = Told;
  plan = report_plan names journal;
  Own = ReportAnswer;
  IsRight = IsReportAnswer;
  IsServed = λ g. Unit {0};
  among = Reported;
}

-- the tables, or the line of an illegal journal
abbrev pub report_said : ReportAnswer → List ℕ
report_said (Tables text) = text
report_said (Illegal place rule) = ruling_line (ruling.Illegal place rule)

-- done where the journal is legal, else wrong
abbrev pub report_status : ReportAnswer → Status
report_status (Tables text) = Done
report_status (Illegal place rule) = Wrong
