-- `desk`: the sessions of a script and optimisers beside them on one desk, down to the text of its one history.
--
-- What is said of the closed desk is `IsRightRun` of the crate `bp_desk_run`; what a history is that such a run may
-- leave, and when it is complete, closed or cut, is said in `DeskRun` of that crate, in the words of the desk alone.
use Rattle.std.specs.Prelude.{◌≡◌, ℕ, ◌+◌, ◌/◌, ◌≤◌, true, false, if◌then◌else◌, List}
use Rattle.bp_types.specs.House.{Inn}
use Rattle.bp_types.specs.declared.command.Command.{Command}
use Rattle.bp_core.specs.Lines.{History, vectors}
use Rattle.bp_journal.specs.Journals.{journal_text}
use Rattle.bp_desk_run.specs.DeskRun.{IsDeskRun, IsComplete, IsClosed, IsCut, HasRoomFor, all_commands, lead_of}
use Rattle.bp_desk_run.specs.RightRun.{Staged, IsRightRun}
use Rattle.bp_desk_run.specs.declared.callers.Ran.{Ran}
use Rattle.bp_cli.specs.Words.{Word}
use Rattle.bp_inputs.specs.Stages.{Plan, done, ask, followed_by}
use Rattle.bp_inputs.specs.HotelPlan.{HotelNames, hotel_plan}
use Rattle.bp_inputs.specs.ScriptFiles.{script_of_hotel}
use Rattle.bp_run.specs.Command.{Command as LineCommand}
use Rattle.bp_inputs.specs.declared.house.OpenHotel.{OpenHotel}
use Rattle.bp_run.specs.declared.status.Status.{Status}
use Rattle.bp_run.specs.declared.status.Status.TheVariants.{Done, Unfinished}
use Rattle.bp_run.specs.declared.end.Answer.TheVariants.{Ran as RanAnswer}

-- a script of a hotel's sessions
abbrev pub script_plan : Word → OpenHotel → Plan Staged
script_plan script inn =
    ask (script_of_hotel inn.hotel inn.stays.codes script) (λ scripts. done (record { house = inn.house; scripts = scripts }))

-- a hotel's four files, and a script of its sessions
abbrev pub desk_plan : HotelNames → Word → Plan Staged
desk_plan names script = followed_by (hotel_plan names) (λ inn. script_plan script inn)

-- the run of a desk with so many optimisers; it is served where the house has room for the script
abbrev pub desk_command : HotelNames → Word → ℕ → LineCommand
desk_command names script workers = record {
  Given = Staged;
  plan = desk_plan names script;
  Own = Ran;
  IsRight = IsRightRun workers;
  IsServed = λ g. HasRoomFor g.house (all_commands g.scripts);
  among = RanAnswer;
}

-- what is written of a run: the text of its history
abbrev pub run_said : Ran → List ℕ
run_said ran = journal_text ran.book.history

-- done where it is whole, and else unfinished
abbrev pub run_status : Ran → Status
run_status ran = if ran.whole then Done else Unfinished
