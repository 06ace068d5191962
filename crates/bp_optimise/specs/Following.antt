-- What contracts see of an optimiser, how it goes with what a pass has seen, and what it does with a pass.
use Rattle.std.specs.Prelude.{◌≡◌, ◌≤◌, ℕ, List, ◌++◌, All, length, Some}
use Rattle.bp_types.specs.Claim.{Claim}
use Rattle.bp_types.specs.House.{Inn}
use Rattle.bp_types.specs.Optimum.{AreLeastPrices}
use Rattle.bp_flow.specs.Solving.{Solving}
use Rattle.bp_turn.specs.Prefix.{IsPrefix}
use Rattle.bp_core.specs.declared.line.Act.TheVariants.{Publish as PublishAct}
use Rattle.bp_core.specs.declared.call.Answer.{Answer}
use Rattle.bp_core.specs.declared.call.Call.{Call}
use Rattle.bp_core.specs.declared.call.Call.TheVariants.{Publish}
use Rattle.bp_core.specs.Lines.{History, calls}
use Rattle.bp_core.specs.Legal.{IsLegal}
use Rattle.bp_core.specs.Instance.{instance_at}
use Rattle.bp_core.specs.Acting.{act_of, certificate_of}
use Rattle.bp_desk.specs.Passes.{PassState}
use Rattle.bp_desk.specs.Calling.{HasRead, IsCalled}

-- a solver at a position of a history
pub record Optimising : Type 0 where
  pub solver : Solving
  pub position : ℕ

-- the position is one of what was seen, and the solver's instance is the one there
pub record GoesWith (house : Inn) (seen : History) (o : Optimising) : Type 0 where
  pub within : o.position ≤ length seen
  pub program : o.solver.flow.program ≡ instance_at house seen o.position

-- the turns that the pass had more, each at a history of which it has seen as much
abbrev pub AddsTurns : PassState → PassState → Type 0
AddsTurns old new = (more : List ℕ) × (new.turns ≡ old.turns ++ more) × All (λ t. t ≤ length new.seen) more

-- what the pass has seen has of its caller just the pass's own calls
abbrev pub HasOwn : PassState → Type 0
HasOwn p = calls p.seen p.caller ≡ p.calls

-- the pass has only looked
pub record HasLooked (old new : PassState) : Type 0 where
  pub begins : IsPrefix old.seen new.seen
  pub desk : new.desk ≡ old.desk
  pub house : new.house ≡ old.house
  pub caller : new.caller ≡ old.caller
  pub calls : new.calls ≡ old.calls
  pub free : new.free ≡ old.free
  pub ended : new.ended ≡ old.ended
  pub turns : AddsTurns old new
  pub own : HasOwn old → HasOwn new
  pub legal : IsLegal old.house old.seen → IsLegal new.house new.seen

-- the pass has looked, and the position is the length of the history that its first look found
pub record HasCaughtUp (old new : PassState) (position : ℕ) : Type 0 where
  pub first : PassState
  pub looked : HasRead old first
  pub caught_up : position ≡ length first.seen
  pub between : HasLooked first new

-- the call asks for so many changes
abbrev pub AsksFor : ℕ → Call → Type 0
AsksFor least (Publish board n) = n ≡ least
AsksFor least _ = ⊥

-- a board with the least prices at the position was offered, and this was answered
pub record IsOffered (least position : ℕ) (old new : PassState) (answer : Answer) : Type 0 where
  pub call : Call
  pub publishes : act_of call ≡ PublishAct position
  pub least_is : AsksFor least call
  pub prices : (claim : Claim) → certificate_of call ≡ Some claim → AreLeastPrices (instance_at old.house old.seen position) claim.prices
  pub called : IsCalled old new call answer
