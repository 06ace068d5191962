-- What a run comes to.
use Rattle.std.specs.Prelude.{◌≡◌, ℕ, zero, suc, ◌+◌, ◌-◌, ◌<◌, ◌≤◌, Bool, true, false, List, [], ◌∷◌, length, slice_index_or}
use Rattle.bp_types.specs.declared.command.Command.{Command}
use Rattle.bp_types.specs.House.{Inn}
use Rattle.bp_turn.specs.Prefix.{IsPrefix}
use Rattle.bp_core.specs.declared.line.Line.{Line}
use Rattle.bp_core.specs.Lines.{History}
use Rattle.bp_core.specs.Acting.{Diary}
use Rattle.bp_core.specs.Legal.{IsLegal}
use Rattle.bp_desk.specs.Passes.{PassState, HasAccounts}
use Rattle.bp_optimise.specs.declared.round.Round.{Round}
use Rattle.bp_desk_run.specs.DeskRun.{script_of, IsDeskRun, IsComplete, IsClosed, IsCut, all_commands, HasRoomFor}
use Rattle.bp_optimise.specs.declared.sessions.Stop.{Stop}
use Rattle.bp_optimise.specs.declared.sessions.Stop.TheVariants.{Finished}
use Rattle.bp_desk_run.specs.declared.actor.Actor.{Actor}
use Rattle.bp_desk_run.specs.Beginnings.{first_lines, OpensWith}
use Rattle.bp_desk_run.specs.Endings.{IsEnded}
use Rattle.bp_desk_run.specs.Closing.{HasAllBack, IsClosing}

-- what holds of the opener's pass before its last round, once all have come back
pub record HasRunTo (house : Inn) (scripts : List (List Command)) (workers : ℕ) (stops : ℕ → Stop) (p : PassState) : Type 0 where
  pub house_is : p.house ≡ house
  pub all_back : HasAllBack (length scripts + workers) p
  pub accounts : HasAccounts p
  pub opening : Line
  pub opens : OpensWith house opening
  pub begins : IsPrefix (first_lines opening (length scripts + workers)) p.seen
  pub own : p.calls ≡ opening ∷ []
  pub ended : (c : ℕ) → 1 ≤ c → c ≤ length scripts + workers → IsEnded house (length scripts) c (script_of scripts (c - 1)) p (stops c)

-- the callers have the sessions' commands, each its own; workers have none
pub record AreScripted (scripts : List (List Command)) (workers sessions : ℕ) (actors : List Actor) : Type 0 where
  pub sessions_are : sessions ≡ length scripts
  pub callers : length actors ≡ length scripts + workers
  pub commands : (c : ℕ) (a : Actor) → 1 ≤ c → c ≤ length actors → (slice_index_or actors (length actors - c) a).commands.items ≡ script_of scripts (c - 1)

-- the book of a desk that closed after the opener's last round
pub record IsClosedAfter (p : PassState) (book : Diary) (round : Round) : Type 0 where
  pub house_is : book.house ≡ p.house
  pub legal : IsLegal book.house book.history
  pub last : PassState
  pub seen : last.seen ≡ book.history
  pub caller : last.caller ≡ p.caller
  pub free : last.free ≡ p.free
  pub ended : last.ended ≡ p.ended
  pub accounts : HasAccounts last
  pub closing : IsClosing p.house p.seen book.history round

-- what a run comes to
pub record ComesTo (house : Inn) (scripts : List (List Command)) (workers : ℕ) (H : History) (is_whole : Bool) : Type 0 where
  pub run : IsDeskRun house scripts workers H
  pub whole : is_whole ≡ true → IsComplete scripts H × IsClosed H
  pub cut : is_whole ≡ false → IsCut house scripts H
  pub room : HasRoomFor house (all_commands scripts) → is_whole ≡ true

-- how the caller at a place stopped
abbrev pub stop_at : List Actor → ℕ → Stop
stop_at [] k = Finished
stop_at (a ∷ rest) zero = a.stop
stop_at (a ∷ rest) (suc k) = stop_at rest k

-- how a caller stopped: the last place is caller 1's
abbrev pub stops_of : List Actor → ℕ → Stop
stops_of actors c = stop_at actors (length actors - c)
