-- What an actor has done with its pass.
use Rattle.std.specs.Prelude.{◌≡◌, ℕ, List}
use Rattle.std.specs.List.{filter_map}
use Rattle.bp_types.specs.declared.command.Command.{Command}
use Rattle.bp_turn.specs.Prefix.{IsPrefix}
use Rattle.bp_core.specs.declared.line.Line.{Line}
use Rattle.bp_core.specs.Lines.{History, command_of}
use Rattle.bp_core.specs.Legal.{IsLegal}
use Rattle.bp_desk.specs.Passes.{PassState}
use Rattle.bp_optimise.specs.Following.{AddsTurns, HasOwn}
use Rattle.bp_optimise.specs.Vectors.{OwnVectors}

-- the commands among some entries, in order
abbrev pub commands_in : History → List Command
commands_in es = filter_map (λ (x : Line). command_of x.entry.act) es

-- an actor's pass: it has seen a legal history, which has of its caller just its own calls, and each vector among them
-- as it must be
pub record IsActor (least : ℕ) (p : PassState) : Type 0 where
  pub legal : IsLegal p.house p.seen
  pub own : HasOwn p
  pub vectors : OwnVectors p.house least p.seen p.caller

-- the pass has looked and called, and is an actor's still
pub record HasActed (least : ℕ) (old new : PassState) : Type 0 where
  pub begins : IsPrefix old.seen new.seen
  pub desk : new.desk ≡ old.desk
  pub house : new.house ≡ old.house
  pub caller : new.caller ≡ old.caller
  pub free : new.free ≡ old.free
  pub ended : new.ended ≡ old.ended
  pub calls : IsPrefix old.calls new.calls
  pub turns : AddsTurns old new
  pub keeps : IsActor least old → IsActor least new
