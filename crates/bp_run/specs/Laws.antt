-- Laws over what commands answer.
use Rattle.std.specs.Prelude.{◌≡◌, ℕ, List, length, Some}
use Rattle.std.specs.FinMap.{get}
use Rattle.bp_edges.specs.Held.{Files}
use Rattle.bp_desk_run.specs.declared.callers.Ran.{Ran}
use Rattle.bp_cli.specs.Words.{Word}
use Rattle.bp_inputs.specs.Fetches.{Fetches}
use Rattle.bp_inputs.specs.HotelPlan.{HotelNames}
use Rattle.bp_run.specs.Command.{IsAnswered}
use Rattle.bp_run.specs.Desk.{desk_command, run_said}
use Rattle.bp_run.specs.Ends.{HasEnd}
use Rattle.bp_run.specs.Served.{AreServed}
use Rattle.bp_run.specs.Judge.{ruling_command, replay_plan}
use Rattle.bp_run.specs.declared.commands.judge.Ruling.{Ruling}
use Rattle.bp_run.specs.declared.commands.judge.Ruling.TheVariants.{Legal}
use Rattle.bp_run.specs.declared.end.End.TheVariants.{NotPlain}

-- two shelves hold the same four files of a hotel
pub record HoldOneHotel (names : HotelNames) (a b : Files) : Type 0 where
  pub hotel : get a names.hotel ≡ get b names.hotel
  pub stays : get a names.stays ≡ get b names.stays
  pub forecast : get a names.forecast ≡ get b names.forecast
  pub bookings : get a names.bookings ≡ get b names.bookings

-- what a desk wrote, at status 0 or 7, is a journal that `replay` calls legal on the same four files, with as many
-- entries as the desk's history has
abbrev pub RunsAreLegal : Type 0
RunsAreLegal =
    (before later : Files) (names : HotelNames) (script journal : Word) (workers : ℕ) (ran : Ran) (ruling : Ruling)
    → HoldOneHotel names before later
    → get later journal ≡ Some (run_said ran)
    → IsAnswered (Some before) (desk_command names script workers) ran
    → IsAnswered (Some later) (ruling_command (replay_plan names journal)) ruling
    → ruling ≡ Legal (length ran.book.history)

-- a line that asks for a task does not end as one that asks for none
abbrev pub IsNotPassedOver : List Word → Fetches → Type 0
IsNotPassedOver words shelf = AreServed words → HasEnd words shelf NotPlain → ⊥
