-- What is known of each caller at the end of a run.
use Rattle.std.specs.Prelude.{◌≡◌, ℕ, ◌+◌, ◌-◌, ◌<◌, ◌≤◌, Bool, if◌then◌else◌, List, [], ◌∷◌, ◌++◌, length, take, Contains}
use Rattle.bp_types.specs.declared.command.Command.{Command}
use Rattle.bp_types.specs.House.{Inn}
use Rattle.bp_turn.specs.Prefix.{IsPrefix}
use Rattle.bp_core.specs.declared.line.Line.{Line}
use Rattle.bp_core.specs.declared.line.Reply.TheVariants.{Done}
use Rattle.bp_core.specs.declared.call.Call.TheVariants.{Leave}
use Rattle.bp_core.specs.Lines.{History, calls}
use Rattle.bp_core.specs.Acting.{line_of}
use Rattle.bp_core.specs.Legal.{IsLegal}
use Rattle.bp_desk.specs.Passes.{PassState}
use Rattle.bp_optimise.specs.Vectors.{OwnVectors}
use Rattle.bp_optimise.specs.Acts.{IsActor, commands_in}
use Rattle.bp_optimise.specs.Works.{HaveLeft}
use Rattle.bp_optimise.specs.Sessions.{IsStop}
use Rattle.bp_desk_run.specs.DeskRun.{lead_of, script_of, OpensAndCloses}
use Rattle.bp_optimise.specs.declared.sessions.Stop.{Stop}
use Rattle.bp_optimise.specs.declared.sessions.Stop.TheVariants.{Finished, Memory}
use Rattle.bp_desk_run.specs.Beginnings.{first_lines, OpensWith}

-- how a worker stopped
abbrev pub stop_of : Bool → Stop
stop_of memory = if memory then Memory else Finished

-- a worker has left: for want of memory, or after the sessions
abbrev pub HasWorked : ℕ → ℕ → PassState → Stop → Type 0
HasWorked sessions number left Finished = (before : History) × (left.seen ≡ before ++ line_of number Leave Done ∷ []) × HaveLeft before sessions
HasWorked sessions number left Memory = Unit {0}
HasWorked sessions number left _ = ⊥

-- a caller's end. It has made so many of its commands, and no other; its last call is its Leave
pub record IsEnd (house : Inn) (sessions number : ℕ) (cs : List Command) (left : PassState) (done : ℕ) (stop : Stop) : Type 0 where
  pub house_is : left.house ≡ house
  pub caller : left.caller ≡ number
  pub actor : IsActor (lead_of house) left
  pub none_ended : left.ended ≡ []
  pub earlier : History
  pub last : left.calls ≡ earlier ++ line_of number Leave Done ∷ []
  pub made : commands_in left.calls ≡ take done cs
  pub stops : number ≤ sessions → IsStop house cs left.seen done stop
  pub worked : sessions < number → HasWorked sessions number left stop

-- a caller's end, joined into the opener's pass
pub record IsEnded (house : Inn) (sessions number : ℕ) (cs : List Command) (p : PassState) (stop : Stop) : Type 0 where
  pub left : PassState
  pub done : ℕ
  pub end : IsEnd house sessions number cs left done stop
  pub begins : IsPrefix left.seen p.seen
  pub kept : Contains p.ended (number, left.calls)

-- a caller's end in the whole history
pub record EndsIn (house : Inn) (sessions number : ℕ) (cs : List Command) (H : History) (stop : Stop) : Type 0 where
  pub left : PassState
  pub done : ℕ
  pub end : IsEnd house sessions number cs left done stop
  pub begins : IsPrefix left.seen H
  pub calls_are : calls H number ≡ left.calls

-- what is known of a whole history once all have left and the desk is closed, by how each caller stopped
pub record IsRunTo (house : Inn) (scripts : List (List Command)) (workers : ℕ) (stops : ℕ → Stop) (H : History) : Type 0 where
  pub legal : IsLegal house H
  pub opening : Line
  pub opens : OpensWith house opening
  pub begins : IsPrefix (first_lines opening (length scripts + workers)) H
  pub ends : (c : ℕ) → 1 ≤ c → c ≤ length scripts + workers → EndsIn house (length scripts) c (script_of scripts (c - 1)) H (stops c)
  pub nobody : (c : ℕ) → length scripts + workers < c → calls H c ≡ []
  pub opener : OpensAndCloses H
  pub opener_vectors : OwnVectors house 0 H 0
  pub opener_commands : commands_in (calls H 0) ≡ []
