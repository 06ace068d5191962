-- The callers of a run before they run, and after.
use Rattle.std.specs.Prelude.{◌≡◌, ◌≢◌, ℕ, ◌+◌, ◌-◌, ◌<◌, ◌≤◌, List, [], ◌∷◌, ◌++◌, length, slice_index_or, vec_capacity, Option, Some}
use Rattle.atomic_table.specs.Seated.{TableId}
use Rattle.bp_types.specs.declared.limits.TheConstants.{CALLERS}
use Rattle.bp_types.specs.declared.command.Command.{Command}
use Rattle.bp_types.specs.House.{Inn}
use Rattle.bp_turn.specs.Prefix.{IsPrefix}
use Rattle.bp_turn.specs.Callers.{numbers_from}
use Rattle.bp_core.specs.declared.line.Line.{Line}
use Rattle.bp_core.specs.Counting.{HasInOrder}
use Rattle.bp_core.specs.declared.line.Reply.TheVariants.{Done}
use Rattle.bp_core.specs.declared.call.Call.TheVariants.{Enrol}
use Rattle.bp_core.specs.Lines.{History, calls}
use Rattle.bp_core.specs.Acting.{line_of}
use Rattle.bp_desk.specs.Passes.{PassState}
use Rattle.bp_optimise.specs.Following.{Optimising, GoesWith}
use Rattle.bp_optimise.specs.Acts.{IsActor}
use Rattle.bp_optimise.specs.Sessions.{AreInRange}
use Rattle.bp_desk_run.specs.declared.actor.TheConstants.{MOST_ACTORS}
use Rattle.bp_desk_run.specs.DeskRun.{lead_of}
use Rattle.bp_desk_run.specs.declared.actor.Actor.{Actor}
use Rattle.bp_desk_run.specs.Beginnings.{first_lines}
use Rattle.bp_desk_run.specs.Endings.{IsEnd, IsEnded}

-- what the callers of a run are told of it: how many sessions there are, the lead, and the units of a room
pub record AreTerms (house : Inn) (sessions lead unit : ℕ) : Type 0 where
  pub lead_is : lead ≡ lead_of house
  pub some_lead : 1 ≤ lead
  pub unit_is : unit ≡ house.limits.unit
  pub few : sessions ≤ MOST_ACTORS

-- a caller that has enrolled, with an optimiser; a worker has no command
pub record IsReady (desk : TableId) (house : Inn) (sessions number : ℕ) (seen : History) (a : Actor) : Type 0 where
  pub pass : PassState
  pub pass_is : a.pass ≡ Some pass
  pub desk_is : pass.desk ≡ desk
  pub house_is : pass.house ≡ house
  pub caller : pass.caller ≡ number
  pub not_opener : number ≢ 0
  pub enrolled : pass.calls ≡ line_of number Enrol Done ∷ []
  pub none_ended : pass.ended ≡ []
  pub begins : IsPrefix pass.seen seen
  pub actor : IsActor (lead_of house) pass
  pub optimiser : Optimising
  pub optimiser_is : a.optimiser ≡ Some optimiser
  pub goes : GoesWith house pass.seen optimiser
  pub range : AreInRange house a.commands.items
  pub none_of_workers : sessions < number → a.commands.items ≡ []

-- a caller that has run
pub record HasRun (desk : TableId) (house : Inn) (sessions number : ℕ) (a : Actor) : Type 0 where
  pub left : PassState
  pub left_is : a.left ≡ Some left
  pub desk_is : left.desk ≡ desk
  pub end : IsEnd house sessions number a.commands.items left a.done a.stop

-- all callers of a slice are ready: the last place is caller 1's
abbrev pub AreReady : TableId → Inn → ℕ → History → List Actor → Type 0
AreReady desk house sessions seen actors = (c : ℕ) (a : Actor) → 1 ≤ c → c ≤ length actors →
    IsReady desk house sessions c seen (slice_index_or actors (length actors - c) a)

-- all of them have run
abbrev pub HaveRun : TableId → Inn → ℕ → List Actor → Type 0
HaveRun desk house sessions actors = (c : ℕ) (a : Actor) → 1 ≤ c → c ≤ length actors →
    HasRun desk house sessions c (slice_index_or actors (length actors - c) a)

-- the commands of all are what they were
abbrev pub KeepCommands : List Actor → List Actor → Type 0
KeepCommands old new = (length new ≡ length old) ×
    ((i : ℕ) (a : Actor) → i < length old → (slice_index_or new i a).commands ≡ (slice_index_or old i a).commands)

-- the opener's pass after it enrolled a caller and met it
pub record HasEnrolled (number : ℕ) (old new : PassState) : Type 0 where
  pub desk : new.desk ≡ old.desk
  pub house : new.house ≡ old.house
  pub caller : new.caller ≡ old.caller
  pub calls : new.calls ≡ old.calls
  pub ended : new.ended ≡ old.ended
  pub free : new.free ≡ numbers_from (number + 1) (CALLERS - (number + 1))
  pub begins : IsPrefix old.seen new.seen
  pub order : (lines : History) → HasInOrder lines old.seen → HasInOrder (lines ++ line_of number Enrol Done ∷ []) new.seen

-- the opener's pass after all callers up to a number have enrolled
pub record HasEnrolledAll (many : ℕ) (old new : PassState) : Type 0 where
  pub desk : new.desk ≡ old.desk
  pub house : new.house ≡ old.house
  pub caller : new.caller ≡ old.caller
  pub calls : new.calls ≡ old.calls
  pub ended : new.ended ≡ old.ended
  pub free : new.free ≡ numbers_from (many + 1) (CALLERS - (many + 1))
  pub order : (o : Line) → old.seen ≡ o ∷ [] → HasInOrder (first_lines o many) new.seen

-- the opener's pass after it joined callers
pub record HasJoined (old new : PassState) : Type 0 where
  pub desk : new.desk ≡ old.desk
  pub house : new.house ≡ old.house
  pub caller : new.caller ≡ old.caller
  pub calls : new.calls ≡ old.calls
  pub free : new.free ≡ old.free
  pub begins : IsPrefix old.seen new.seen
