-- `portfolio`: the desks of several hotels beside one another, down to the text of each one's history.
--
-- What is said of each hotel is what `desk` says of it (`IsRightRun`), for its own house, script and workers alone.
use Rattle.std.specs.Prelude.{ℕ, ◌+◌, true, false, if◌then◌else◌, List, [], ◌∷◌, ◌++◌, codes}
use Rattle.std.specs.List.{list_all}
use Rattle.bp_desk_run.specs.RightRun.{Staged}
use Rattle.bp_desk_run.specs.declared.callers.Ran.{Ran}
use Rattle.bp_portfolio.specs.Lists.{FiveNames}
use Rattle.bp_portfolio.specs.Desks.{AreRightRuns, HaveRoom}
use Rattle.bp_cli.specs.Words.{Word}
use Rattle.bp_inputs.specs.Stages.{Plan, done, ask, followed_by}
use Rattle.bp_inputs.specs.HotelPlan.{HotelNames}
use Rattle.bp_inputs.specs.ListFiles.{list_file}
use Rattle.bp_run.specs.Desk.{desk_plan, run_said, run_status}
use Rattle.bp_run.specs.Texts.{line}
use Rattle.bp_run.specs.Command.{Command}
use Rattle.bp_run.specs.Statuses.{status_number}
use Rattle.bp_run.specs.declared.status.Status.{Status}
use Rattle.bp_run.specs.declared.status.Status.TheVariants.{Done, Unfinished}
use Rattle.bp_run.specs.declared.end.Answer.TheVariants.{RanAll}

-- a hotel's four files among the five of a list's line
abbrev pub four_names : FiveNames → HotelNames
four_names n = record { hotel = n.hotel; stays = n.stays; forecast = n.forecast; bookings = n.bookings }

-- behind hotels that were read, the five files of each of these, hotel by hotel
abbrev pub desks_plan : List Staged → List FiveNames → Plan (List Staged)
desks_plan front [] = done front
desks_plan front (n ∷ hotels) = followed_by (desk_plan (four_names n) n.script) (λ g. desks_plan (front ++ g ∷ []) hotels)

-- a list, and then the files of its hotels; no desk is opened before all of them are read
abbrev pub portfolio_plan : Word → Plan (List Staged)
portfolio_plan list = ask (list_file list) (λ hotels. desks_plan [] hotels)

-- the desks of a list's hotels, each with so many optimisers; they are served where each house has room for its script
abbrev pub portfolio_command : Word → ℕ → Command
portfolio_command list workers = record {
  Given = List Staged;
  plan = portfolio_plan list;
  Own = List Ran;
  IsRight = AreRightRuns workers;
  IsServed = HaveRoom;
  among = RanAll;
}

-- the line of the hotel with a number, and with its status
abbrev pub hotel_head : ℕ → Ran → List ℕ
hotel_head hotel ran = line (codes "hotel") (hotel ∷ status_number (run_status ran) ∷ [])

-- what is written of it: this line, and then the text of its history
abbrev pub hotel_said : ℕ → Ran → List ℕ
hotel_said hotel ran = hotel_head hotel ran ++ run_said ran

-- what is written of the hotels from one with this number on
abbrev pub hotels_said : ℕ → List Ran → List ℕ
hotels_said hotel [] = []
hotels_said hotel (ran ∷ runs) = hotel_said hotel ran ++ hotels_said (hotel + 1) runs

-- what is written of all hotels, which count from 1
abbrev pub runs_said : List Ran → List ℕ
runs_said runs = hotels_said 1 runs

-- done where each hotel's run is whole, and else unfinished
abbrev pub runs_status : List Ran → Status
runs_status runs = if list_all (λ (ran : Ran). ran.whole) runs then Done else Unfinished
