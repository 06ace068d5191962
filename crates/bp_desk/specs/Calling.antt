-- What a call through a pass may be, and what it does.
use Rattle.std.specs.Prelude.{◌≡◌, ℕ, Bool, true, false, [], ◌∷◌, ◌++◌, length, Some, IsTrue}
use Rattle.bp_types.specs.House.{Inn}
use Rattle.bp_turn.specs.Prefix.{IsPrefix, longer}
use Rattle.bp_turn.specs.Seat.{SeatState}
use Rattle.bp_core.specs.declared.line.Line.{Line}
use Rattle.bp_core.specs.declared.call.Call.{Call}
use Rattle.bp_core.specs.declared.call.Answer.{Answer}
use Rattle.bp_core.specs.declared.call.Answer.TheVariants.{Logged}
use Rattle.bp_core.specs.Lines.{History, calls}
use Rattle.bp_core.specs.Callers.{may_log}
use Rattle.bp_core.specs.Legal.{IsLegal, is_in_range}
use Rattle.bp_core.specs.Acting.{Diary, IsAnswered, IsCallRight, act_of, line_of}
use Rattle.bp_desk.specs.Passes.{PassState}

-- a house with a history
abbrev pub diary : Inn → History → Diary
diary house history = record { house = house; history = history }

-- the conditions of a call, by what the caller has seen
pub record MayMake (house : Inn) (seen : History) (caller : ℕ) (call : Call) : Type 0 where
  pub caller_may : IsTrue (may_log seen caller (act_of call))
  pub in_range : IsTrue (is_in_range house (act_of call))
  pub is_right : IsCallRight house seen call

-- the pass after a turn at which the history was `found`, and is `seen` afterwards
abbrev pub after_turn : PassState → History → History → PassState
after_turn p found seen = record p { seen = seen; calls = calls seen p.caller; turns = p.turns ++ length found ∷ [] }

-- a call was made at its turn. The history that it found begins with all that the caller had seen, and has of the
-- caller just its own calls. The answer is the book's for that history, and what the caller has seen afterwards is what
-- the book leaves.
pub record IsCalled (old new : PassState) (call : Call) (answer : Answer) : Type 0 where
  pub found : History
  pub begins : IsPrefix old.seen found
  pub own : calls found old.caller ≡ old.calls
  pub answered : IsAnswered (diary old.house found) (diary old.house new.seen) old.caller call answer
  pub pass : new ≡ after_turn old found new.seen
  pub legal : IsLegal old.house new.seen

-- a turn that only read: the pass has seen the history that it found, of which nothing since is its own
pub record HasRead (old new : PassState) : Type 0 where
  pub begins : IsPrefix old.seen new.seen
  pub pass : new ≡ record old { seen = new.seen; turns = old.turns ++ length new.seen ∷ [] }
  pub own : calls new.seen old.caller ≡ old.calls
  pub legal : IsLegal old.house new.seen

-- At a turn a seat found what is in the book: it begins with all that was seen before, of which nothing since is the
-- seat's own.
pub record HasTurn (old new : SeatState Inn Line) (book : Diary) : Type 0 where
  pub fixed : old.fixed ≡ Some book.house
  pub begins : IsPrefix old.seen book.history
  pub seat : new ≡ record old { seen = book.history; has_turn = true; turns = old.turns ++ length book.history ∷ [] }
  pub before : calls old.seen old.number ≡ old.own
  pub own : calls book.history old.number ≡ old.own
  pub legal : IsLegal book.house book.history

-- the pass with another joined into it
abbrev pub joined : PassState → PassState → PassState
joined p left = record p { seen = longer p.seen left.seen; ended = p.ended ++ (left.caller, left.calls) ∷ left.ended }

-- the call was logged
abbrev pub is_logged : Answer → Bool
is_logged (Logged reply) = true
is_logged _ = false

-- the caller's own calls are one more where the call was logged, and else as before
abbrev pub AddsCall : PassState → PassState → Call → Answer → Type 0
AddsCall old new call (Logged reply) = new.calls ≡ old.calls ++ line_of old.caller call reply ∷ []
AddsCall old new call _ = new.calls ≡ old.calls
