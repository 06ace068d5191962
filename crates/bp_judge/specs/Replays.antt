-- A history that is written anew, line by line.
use Rattle.std.specs.Prelude.{◌≡◌, ◌≢◌, ℕ, ◌∷◌, [], ◌++◌, Option, None, MatchOption}
use Rattle.bp_types.specs.declared.command.Command.{Command}
use Rattle.bp_core.specs.declared.call.Call.{Call}
use Rattle.bp_core.specs.declared.call.Call.TheVariants.{Do, Publish, Enrol, Leave}
use Rattle.bp_core.specs.declared.call.Answer.{Answer}
use Rattle.bp_core.specs.declared.call.Answer.TheVariants.{Logged, HistoryFull, Behind}
use Rattle.bp_core.specs.declared.line.Line.{Line}
use Rattle.bp_core.specs.declared.line.Reply.{Reply}
use Rattle.bp_core.specs.Acting.{Diary}
use Rattle.bp_core.specs.Legal.{IsLegal}
use Rattle.bp_core.specs.Lines.{last_position}
use Rattle.bp_core.specs.Replying.{Adds, IsFull, IsBehind}
use Rattle.bp_judge.specs.declared.replay.Replay.{Replay}
use Rattle.bp_judge.specs.declared.judgement.Cause.{Cause}
use Rattle.bp_judge.specs.declared.judgement.Cause.TheVariants.{Certificate, Reply as OtherReply}
use Rattle.bp_judge.specs.Judging.{IsFirstCause}
use Rattle.bp_judge.specs.Searches.{last_quoted}
use Rattle.bp_judge.specs.Trails.{GoesWith, quoted_at}

-- the book is legal; what is carried along goes with it, its instance at the last vector's position, and its solver
-- where the last displacement was found
pub record IsReplay (r : Replay) : Type 0 where
  pub legal : IsLegal r.book.house r.book.history
  pub goes : GoesWith r.book.house r.book.history r.trail
  pub at : r.trail.course.position ≡ last_position r.book.history
  pub last : quoted_at r.trail ≡ last_quoted r.book.house r.book.history

-- the line has a first cause after the book's history, or the book has it now
abbrev pub HasRead : Replay → Replay → Line → Option Cause → Type 0
HasRead old new x cause =
    MatchOption cause
    (IsReplay new × (new.book ≡ record { house = old.book.house; history = old.book.history ++ x ∷ [] }))
    (IsFirstCause old.book.house old.book.history x)

-- what a command comes to, once it has the quote that it needs
abbrev pub IsAsked : Diary → Diary → ℕ → Command → Answer → Type 0
IsAsked old new caller command (Logged reply) = Adds old new caller command reply
IsAsked old new caller command HistoryFull = IsFull old
IsAsked old new caller command (Behind position changes) = IsBehind old command position changes
IsAsked old new caller command _ = ⊥

-- where the answer is a reply, the replay goes on
abbrev pub GoesOn : Replay → Answer → Type 0
GoesOn r answer = (reply : Reply) → answer ≡ Logged reply → IsReplay r

-- an Enrol or a Leave
abbrev pub IsPlain : Call → Type 0
IsPlain Enrol = Unit {0}
IsPlain Leave = Unit {0}
IsPlain (Do command quoted) = ⊥
IsPlain (Publish board least) = ⊥

-- in what a line differs from the plain one with this reply
abbrev pub IsOther : Line → Reply → Cause → Type 0
IsOther x reply Certificate = x.certificate ≢ None
IsOther x reply OtherReply = (x.certificate ≡ None) × (x.entry.reply ≢ reply)
IsOther x reply _ = ⊥
