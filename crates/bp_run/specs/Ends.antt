-- How a call ends: its words and files, and the status and the text that they have.
use Rattle.std.specs.Prelude.{◌≡◌, ◌≢◌, ◌⊎◌, ℕ, ◌≤◌, List, Option, None, Some, Result, Ok, IsErr}
use Rattle.bp_edges.specs.Counts.{Rose}
use Rattle.bp_edges.specs.Held.{Files, Fetch}
use Rattle.bp_edges.specs.Writing.{Appended, AppendedPrefix}
use Rattle.bp_cli.specs.Words.{Word}
use Rattle.bp_cli.specs.Tasks.{Task, FiveNames, desk, scenarios, Asks, portfolio}
use Rattle.bp_inputs.specs.HotelPlan.{HotelNames, named}
use Rattle.bp_run.specs.Served.{AreServed}
use Rattle.bp_run.specs.Statuses.{status_number}
use Rattle.bp_inputs.specs.Stages.{ComesAt, HoldsFiles, AreGood}
use Rattle.bp_inputs.specs.Fetches.{Fetches, Fails, IsRefusedFor}
use Rattle.bp_run.specs.Puts.{Puts}
use Rattle.bp_run.specs.Command.{IsAnswerOf}
use Rattle.bp_run.specs.Commands.{command_of, IsPlainAnswer}
use Rattle.bp_run.specs.Lines.{said, end_status}
use Rattle.bp_run.specs.declared.status.Status.TheVariants as status
use Rattle.bp_inputs.specs.declared.stop.Stop.{Stop}
use Rattle.bp_inputs.specs.declared.stop.Stop.TheVariants as stop
use Rattle.bp_run.specs.declared.outcome.DeskLine.{DeskLine}
use Rattle.bp_run.specs.declared.outcome.ScenariosLine.{ScenariosLine}
use Rattle.bp_run.specs.declared.outcome.PortfolioLine.{PortfolioLine}
use Rattle.bp_run.specs.declared.end.End.{End}
use Rattle.bp_run.specs.declared.end.End.TheVariants.{NotPlain, Fault, Refused, Answered}

-- the cause of each end
abbrev pub HasEnd : List Word → Fetches → End → Type 0
HasEnd words shelf NotPlain = AreServed words → ⊥
HasEnd words shelf (Fault file) =
    (task : Task) × Asks words task × ComesAt shelf.before.held (λ s. Fails shelf s.name) (command_of task).plan 1 file
HasEnd words shelf (Refused file cause) =
    (task : Task) × Asks words task × ComesAt shelf.before.held (IsRefusedFor shelf cause) (command_of task).plan 1 file
HasEnd words shelf (Answered answer) =
    (task : Task) × Asks words task × IsAnswerOf shelf.before.held (command_of task) answer

-- an end of each line that asks for this task
abbrev pub HasTaskEnd : Task → Fetches → End → Type 0
HasTaskEnd task shelf end = (words : List Word) → Asks words task → HasEnd words shelf end

-- how a call ends that was stopped at a file
abbrev pub HasStopped : {E : Type 0} → Stop → Result End E → Type 0
HasStopped stop.Memory result = IsErr result
HasStopped (stop.Fault file) result = result ≡ Ok (Fault file)
HasStopped (stop.Refused file cause) result = result ≡ Ok (Refused file cause)

-- an end that one thread comes to
abbrev pub IsPlainEnd : End → Type 0
IsPlainEnd NotPlain = Unit {0}
IsPlainEnd (Fault file) = Unit {0}
IsPlainEnd (Refused file cause) = Unit {0}
IsPlainEnd (Answered answer) = IsPlainAnswer answer

-- a hotel's names, and one behind them
abbrev pub five_names : HotelNames → Word → FiveNames
five_names n last = record { hotel = n.hotel; stays = n.stays; forecast = n.forecast; bookings = n.bookings; last = last }

-- the task is that of a desk with these names and this number of workers
abbrev pub IsDeskOf : Task → DeskLine → Type 0
IsDeskOf task line = task ≡ desk (five_names (named line.hotel) line.script.now) line.workers

-- the task is that of scenarios with these names
abbrev pub AreScenariosOf : Task → ScenariosLine → Type 0
AreScenariosOf task line = task ≡ scenarios line.problem.now line.changes.now

-- the task is that of a portfolio with this list and this number of workers
abbrev pub IsPortfolioOf : Task → PortfolioLine → Type 0
IsPortfolioOf task line = task ≡ portfolio line.list.now line.workers

-- the words and the shelf have this status and this text
pub record Outcome (words : List Word) (shelf : Fetches) (number : ℕ) (text : List ℕ) : Type 0 where
  pub end : End
  pub has : HasEnd words shelf end
  pub status_is : number ≡ status_number (end_status end)
  pub text_is : text ≡ said end

-- the whole text of the status was written
pub record Finishes (words : List Word) (shelf : Fetches) (out : Puts) (number : ℕ) : Type 0 where
  pub text : List ℕ
  pub outcome : Outcome words shelf number text
  pub written : Appended out.before.written out.now.written text

-- a first part of the text of a status was written
pub record BreaksOff (words : List Word) (shelf : Fetches) (out : Puts) : Type 0 where
  pub number : ℕ
  pub text : List ℕ
  pub outcome : Outcome words shelf number text
  pub written : AppendedPrefix out.before.written out.now.written text

-- the shelf tells what it holds, and every file that the words come to is there
pub record HoldsAll (words : List Word) (held : Option Files) : Type 0 where
  pub files : Files
  pub told : held ≡ Some files
  pub each : (task : Task) → Asks words task → HoldsFiles files (command_of task).plan

-- the words are a plain line, and the shelf tells that it holds every file that they come to, short enough and
-- accepted; what the files give is served
pub record IsComplete (words : List Word) (held : Option Files) : Type 0 where
  pub plain : AreServed words
  pub all : Files
  pub told : held ≡ Some all
  pub each : (task : Task) → Asks words task → AreGood all (command_of task).IsServed (command_of task).plan

-- what a call of the program says of its words, its shelf and its sink, by the number of its status
pub record Serves (words : List Word) (shelf : Fetches) (out : Puts) (number : ℕ) : Type 0 where
  -- unless it was cut off or found no memory, the whole text was written
  pub done : number ≢ status_number status.CutOff → number ≢ status_number status.NoMemory → Finishes words shelf out number
  -- it was cut off only where the sink failed, and a first part of such a text was written
  pub cut_off : number ≡ status_number status.CutOff → Rose out.before.faults out.now.faults × BreaksOff words shelf out
  -- where it found no memory nothing was written, or a first part of such a text
  pub no_memory : number ≡ status_number status.NoMemory → (out.now.written ≡ out.before.written) ⊎ BreaksOff words shelf out
  -- where it does not give up
  pub steady_shelf : shelf.before.steady → HoldsAll words shelf.before.held → number ≢ status_number status.Fault
  pub steady_sink : out.before.steady → number ≢ status_number status.CutOff
  pub complete : shelf.before.steady → out.before.steady → IsComplete words shelf.before.held
      → (number ≤ status_number status.Wrong) ⊎ (number ≡ status_number status.NoMemory)

-- what a call says of a task: each line that asks for it is served
abbrev pub ServesTask : Task → Fetches → Puts → ℕ → Type 0
ServesTask task shelf out number = (words : List Word) → Asks words task → Serves words shelf out number

-- what a call says of no task: each line that asks for none is served
abbrev pub ServesNoTask : Fetches → Puts → ℕ → Type 0
ServesNoTask shelf out number = (words : List Word) → (AreServed words → ⊥) → Serves words shelf out number

-- what a call says of its words and the number of its status over a shelf and a sink that tell nothing of their
-- content, as real files and standard output do: there are counts, before the call and after it, and a newest fetch
-- with which it serves the words
pub record ServesUnseen (words : List Word) (number : ℕ) : Type 0 where
  pub first_faults : ℕ
  pub faults : ℕ
  pub first_fetches : ℕ
  pub fetches : ℕ
  pub first_last : Fetch
  pub last : Fetch
  pub first_cuts : ℕ
  pub cuts : ℕ
  pub serves : Serves words
      (record {
        before = record { held = None; faults = first_faults; fetches = first_fetches; last = first_last; steady = ⊥ };
        now = record { held = None; faults = faults; fetches = fetches; last = last; steady = ⊥ };
      })
      (record {
        before = record { written = None; faults = first_cuts; steady = ⊥ };
        now = record { written = None; faults = cuts; steady = ⊥ };
      })
      number
