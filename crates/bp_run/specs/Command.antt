-- What a call has to know of a command: what it stands on and what it answers.
use Rattle.std.specs.Prelude.{◌≡◌, ℕ, Option, Result, Ok, Err}
use Rattle.bp_edges.specs.Held.{Files}
use Rattle.bp_inputs.specs.Stages.{Plan, Gives}
use Rattle.bp_inputs.specs.Fetches.{Fetches}
use Rattle.bp_inputs.specs.Stops.{StopsIn, NeverFails}
use Rattle.bp_inputs.specs.declared.stop.Stop.{Stop}
use Rattle.bp_run.specs.declared.end.Answer.{Answer}

-- a command: what its files give together, the plan of its files, its own answers and which of them are right, what
-- completeness asks besides good files, and its answers among those of all commands
pub record Command : Type 1 where
  pub Given : Type 0
  pub plan : Plan Given
  pub Own : Type 0
  pub IsRight : Given → Own → Type 0
  pub IsServed : Given → Type 0
  pub among : Own → Answer

-- the command's files gave something, and this is a right answer to it
pub record IsAnswered (held : Option Files) (command : Command) (own : command.Own) : Type 0 where
  pub given : command.Given
  pub next : ℕ
  pub gives : Gives held command.plan 1 next given
  pub right : command.IsRight given own

-- one of the command's files gave no value, and none failed where a steady shelf holds them
pub record IsStopped (shelf : Fetches) (command : Command) (stop : Stop) : Type 0 where
  pub stops : StopsIn shelf command.plan 1 stop
  pub unfailing : NeverFails shelf command.plan stop

-- what the call of a command says: its own answer, or why one of its files gave no value
abbrev pub Brings : (shelf : Fetches) (command : Command) → Result command.Own Stop → Type 0
Brings shelf command (Ok own) = IsAnswered shelf.before.held command own
Brings shelf command (Err stop) = IsStopped shelf command stop

-- an answer of all commands that is right for this one
pub record IsAnswerOf (held : Option Files) (command : Command) (answer : Answer) : Type 0 where
  pub own : command.Own
  pub is : answer ≡ command.among own
  pub answered : IsAnswered held command own

-- what a call says that answers any command
abbrev pub Concludes : Fetches → Command → Result Answer Stop → Type 0
Concludes shelf command (Ok answer) = IsAnswerOf shelf.before.held command answer
Concludes shelf command (Err stop) = IsStopped shelf command stop
